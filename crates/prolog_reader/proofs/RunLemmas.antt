-- Reading one clause: what each token and each end of a run comes to.
use Rattle.std.proofs.Common.{◌≡◌, ℕ, ◌+◌, ◌≤◌, arith, Bool, true, false, List, [], ◌∷◌, length, drop, Option, Some, None, Ok, Err, refl, sym, ap, ◌∙◌, subst}
use Rattle.prolog_tokens.specs.Bytes.{begins_with}
use Rattle.prolog_tokens.specs.Cursor.{Cursor, next_of}
use Rattle.prolog_tokens.specs.Stream.{Lexes, ends}
use Rattle.prolog_tokens.specs.Decoding.{IsTokenOf, bytes_of}
use Rattle.prolog_tokens.specs.declared.token.TokenKind.{TokenKind}
use Rattle.prolog_tokens.specs.declared.token.TokenKind.TheVariants as kind
use Rattle.prolog_tokens.specs.declared.token.Token.{Token as TextToken}
use Rattle.prolog_tokens.specs.declared.fault.LexFault.{LexFault}
use Rattle.prolog_tokens.proofs.StreamLemmas.{after_token, at_end, at_fault}
use Rattle.prolog_grammar.specs.Token.{Token, End, touches}
use Rattle.prolog_grammar.specs.Fault.{unexpected, deep, Verdict}
use Rattle.prolog_grammar.specs.Placed.{Tree, tree, Part, part_tree, Known}
use Rattle.prolog_grammar.specs.Rules.{Rules}
use Rattle.prolog_grammar.specs.Machine.{State, start}
use Rattle.prolog_grammar.specs.Walk.{Next, go_on, stuck, finished, unexpected_here, deep_here, walk_step, walked, walk}
use Rattle.prolog_reader.specs.declared.fault.ReadKind.TheVariants.{Lex, Unexpected, Deep}
use Rattle.prolog_reader.specs.declared.clause_reading.Found.{Found}
use Rattle.prolog_reader.specs.declared.clause_reading.Found.TheVariants as found
use Rattle.prolog_terms.specs.Clauses.{Clause}
use Rattle.prolog_operators.specs.Names.{Extends}
use Rattle.prolog_terms.specs.Symbols.{Seen, none_seen, token_of, kind_seen, seen_after}
use Rattle.prolog_operators.specs.Table.{Table}
use Rattle.term_parser.specs.Views.{from_tree, table_rules}
use Rattle.prolog_reader.specs.Reading.{fault_at}
use Rattle.prolog_reader.specs.Words.{known}
use Rattle.prolog_reader.specs.Progress.{Running, Taken}
use Rattle.prolog_reader.specs.Scan.{Outcome, scanned, scan_end, scan, closing_of, IsNextFault, Closes, Gives, Finds}
use Rattle.prolog_reader.proofs.LexLemmas.{cursor, none_past}
use Rattle.prolog_operators.proofs.NameLemmas.{extends_trans}
use Rattle.prolog_terms.proofs.VariableLemmas.{variable_count}
use Rattle.prolog_reader.proofs.ScanLemmas.{scan_step, scan_last}

-- a term under way is its plain term
pub part_tree_view : (t : Tree) (d : ℕ) → part_tree (from_tree t d) ≡ t
part_tree_view (tree at s) d = refl

-- no parenthesis is fed
pub closing_apart : (query : Bool) (fault : Option LexFault) → touches (closing_of query fault) ≡ false
closing_apart true (Some f) = refl
closing_apart true None = refl
closing_apart false fault = refl

-- a run that is at its end
pub walk_none : (rules : Rules Part) (s : State Part) → walk 1000 rules s [] ≡ Err (unexpected [])
unfolding walk
walk_none rules s = refl

pub walk_end : (rules : Rules Part) (s : State Part) → walk 1000 rules s (End ∷ []) ≡ walked (walk_step 1000 rules s End false) (λ s'. Err (unexpected [])) (End ∷ []) []
unfolding walk
walk_end rules s = refl

-- a text ends within a clause, but a query may end
pub closes_none : (rules : Rules Part) (s : State Part) (query : Bool) (vars at : ℕ) → query ≡ false → Closes (walk 1000 rules s (closing_of query None)) vars at (found.Refused Unexpected at)
closes_none rules s query vars at h = rw (h, walk_none rules s) (refl, refl)

pub closes_step : (rules : Rules Part) (s : State Part) (query : Bool) (vars at : ℕ) (n : Next Part) (f : Found) → query ≡ true → n ≡ walk_step 1000 rules s End false
    → Closes (walked n (λ s'. Err (unexpected [])) (End ∷ []) []) vars at f → Closes (walk 1000 rules s (closing_of query None)) vars at f
closes_step rules s query vars at n f h step closes = rw (h, walk_end rules s, ← step) closes

pub running_start : (text : List ℕ) (names : List (List ℕ)) (query : Bool) (rules : Rules Part) (there here : Cursor) (first : TextToken) (s : State Part) (seen : Seen)
    → here ≡ there → s ≡ start → seen ≡ none_seen → Running text names query rules there here first s seen None first
running_start text names query rules there here first s seen same begins none = record {
  each = λ later ts0 fault ext lexes. (
    ts0,
    subst (λ c. Lexes c ts0 fault) (sym same) lexes,
    ap (λ s'. scan later text fault (closing_of query fault) rules s' none_seen None (first ∷ ts0)) (sym begins)
        ∙ ap (λ seen'. scan later text fault (closing_of query fault) rules s seen' None (first ∷ ts0)) (sym none),
  );
}

module _ (text : List ℕ) (names names' : List (List ℕ)) (query : Bool) (rules : Rules Part) (there here : Cursor) (first : TextToken) where
  pub taken : (s : State Part) (seen seen' : Seen) (before : Option TextToken) (token : TextToken) (n : Next Part) (u : Token) (touch : Bool)
      → Running text names query rules there here first s seen before token → Extends names names' → here ≡ cursor text token.end → seen' ≡ seen_after text seen token
      → n ≡ walk_step 1000 rules s u touch → ((later : List (List ℕ)) → Extends names' later → u ≡ token_of later text seen before token) → touch ≡ begins_with 40 (drop token.end text)
      → Taken text names' query rules there here first n seen' token
  taken s seen seen' before token n u touch running kept at after step is touching = record {
    each = λ later ts0 fault ext lexes.
        let r = running.each later ts0 fault (extends_trans names names' later kept ext) lexes in
        let behind = subst (λ c. Lexes c r.0 fault) at r.1 in (
          r.0,
          r.1,
          r.2 ∙ scan_step later text fault (closing_of query fault) (closing_apart query fault) rules s seen before token r.0 n u touch step (is later ext) touching behind
              ∙ ap (λ q. scanned later text fault (closing_of query fault) rules n (λ s'. scan later text fault (closing_of query fault) rules s' q (Some token) r.0) q token r.0) (sym after),
        );
  }

  -- the next token
  pub goes_next : (s : State Part) (seen : Seen) (token next : TextToken) (here' : Cursor)
      → Taken text names query rules there here first (go_on s) seen token → here.text ≡ text → next_of here ≡ Ok (Some next) → here' ≡ cursor text next.end
      → Running text names query rules there here' first s seen (Some token) next
  goes_next s seen token next here' taken same is at = record {
    each = λ later ts0 fault ext lexes.
        let r = taken.each later ts0 fault ext lexes in
        let after = after_token r.1 next is in
        let behind = subst (λ c. Lexes c after.more fault) (ap (λ xs. cursor xs next.end) same ∙ sym at) after.later in
        (after.more, behind, r.2 ∙ ap (λ ts. scan later text fault (closing_of query fault) rules s seen (Some token) ts) after.first);
  }

module _ (text : List ℕ) (names : List (List ℕ)) (query : Bool) (table : Table) (k : Known) (there here : Cursor) (first : TextToken)
    (are : (later : List (List ℕ)) → Extends names later → known later ≡ k) where
  abbrev rules : Rules Part
  rules = table_rules table k

  -- what is found is the same by the rules of the later names
  finds : (later : List (List ℕ)) (ts : List TextToken) (fault : Option LexFault) (at : Cursor) (f : Found) → Extends names later
      → ((r : Rules Part) → r ≡ rules → Finds later text fault (closing_of query fault) table ts at f) → Finds later text fault (closing_of query fault) table ts at f
  finds later ts fault at f ext h = h rules refl

  module _ (later : List (List ℕ)) (ts0 : List TextToken) (fault : Option LexFault) (ext : Extends names later) (lexes : Lexes there ts0 fault) where
    abbrev run : Known → Outcome
    run known' = scan later text fault (closing_of query fault) (table_rules table known') start none_seen None (first ∷ ts0)

    -- by the later names
    same_run : (x : Outcome) → run k ≡ x → run (known later) ≡ x
    same_run x h = ap run (are later ext) ∙ h

    pub finishes : (part : Part) (seen : Seen) (token : TextToken) (c : Clause) → Taken text names query rules there here first (finished part) seen token
        → c ≡ record { term = part_tree part; vars = seen.count } → Gives later text fault (closing_of query fault) table (first ∷ ts0) here c
    finishes part seen token c taken is =
        let r = taken.each later ts0 fault ext lexes in
        record { part = part; seen = seen; rest = r.0; runs = same_run (Ok (part, (seen, r.0))) r.2; later = r.1; is = is }

    pub is_unexpected : (seen : Seen) (token : TextToken) → Taken text names query rules there here first unexpected_here seen token → run (known later) ≡ Err (Unexpected, token.start)
    is_unexpected seen token taken = let r = taken.each later ts0 fault ext lexes in same_run (Err (Unexpected, token.start)) r.2

    pub is_deep : (seen : Seen) (token : TextToken) → Taken text names query rules there here first deep_here seen token → run (known later) ≡ Err (Deep, token.start)
    is_deep seen token taken = let r = taken.each later ts0 fault ext lexes in same_run (Err (Deep, token.start)) r.2

    -- no token after is expected
    pub is_stuck : (seen : Seen) (token : TextToken) (at : Cursor) (f : Found) → Taken text names query rules there here first stuck seen token
        → ((ts : List TextToken) (e : Option LexFault) → Lexes here ts e → IsNextFault (length text) e ts f) → Finds later text fault (closing_of query fault) table (first ∷ ts0) at f
    is_stuck seen token at (found.Clause c) taken next = absurd (let r = taken.each later ts0 fault ext lexes in next r.0 fault r.1)
    is_stuck seen token at (found.Refused kind place) taken next =
        let r = taken.each later ts0 fault ext lexes in
        same_run (Err (kind, place)) (r.2 ∙ ap (λ e. Err e) (next r.0 fault r.1))

    -- a lexical fault stands after
    pub is_lexical : (s : State Part) (seen : Seen) (token : TextToken) (f : LexFault) → Taken text names query rules there here first (go_on s) seen token → next_of here ≡ Err f
        → run (known later) ≡ Err (Lex f.kind, f.at)
    is_lexical s seen token f taken is =
        let r = taken.each later ts0 fault ext lexes in
        let end = at_fault r.1 f is in
        same_run (Err (Lex f.kind, f.at)) (r.2 ∙ fault_end s seen token f r.0 end.0 end.1)
      where
        closes : (query' : Bool) (f : LexFault) (s : State Part) (seen : Seen)
            → scan_end later text (Some f) (closing_of query' (Some f)) rules seen (walk 1000 rules s (closing_of query' (Some f))) ≡ Err (Lex f.kind, f.at)
        closes true f s seen = rw (walk_none rules s) refl
        closes false f s seen = rw (walk_none rules s) refl

        fault_end : (s : State Part) (seen : Seen) (token : TextToken) (f : LexFault) (ts : List TextToken) → ts ≡ [] → fault ≡ Some f
            → scan later text fault (closing_of query fault) rules s seen (Some token) ts ≡ Err (Lex f.kind, f.at)
        fault_end s seen token f ts none is =
            ap (λ ts'. scan later text fault (closing_of query fault) rules s seen (Some token) ts') none
            ∙ ap (λ e. scan later text e (closing_of query e) rules s seen (Some token) []) is
            ∙ scan_last later text (Some f) (closing_of query (Some f)) (closing_apart query (Some f)) rules s seen (Some token) ∙ closes query f s seen

    -- the text ends
    closes_by : (v : Verdict Part) (seen : Seen) (vars : ℕ) (f : Found) (at : Cursor) → Lexes at [] fault → fault ≡ None → vars ≡ seen.count
        → run k ≡ scan_end later text fault (closing_of query fault) rules seen v → Closes v vars (length text) f
        → Finds later text fault (closing_of query fault) table (first ∷ ts0) at f
    closes_by (Ok r) seen vars (found.Clause c) at over none counted runs closes =
        record { part = r.0; seen = seen; rest = []; runs = same_run (Ok (r.0, (seen, []))) runs; later = over; is = closes ∙ ap (λ n. record { term = part_tree r.0; vars = n }) counted }
    closes_by (Err (unexpected rest)) seen vars (found.Refused kind place) at over none counted runs closes =
        same_run (Err (kind, place)) (runs ∙ ap (λ e. Err (fault_at (length text) e [])) none ∙ ap (λ x. Err (x, length text)) (sym closes.0) ∙ ap (λ n. Err (kind, n)) (sym closes.1))
    closes_by (Err (deep rest)) seen vars (found.Refused kind place) at over none counted runs closes =
        same_run (Err (kind, place)) (runs ∙ ap (λ x. Err (x, length text)) (sym closes.0) ∙ ap (λ n. Err (kind, n)) (sym closes.1))
    closes_by (Ok r) seen vars (found.Refused kind place) at over none counted runs closes = absurd closes
    closes_by (Err (unexpected rest)) seen vars (found.Clause c) at over none counted runs closes = absurd closes
    closes_by (Err (deep rest)) seen vars (found.Clause c) at over none counted runs closes = absurd closes

    pub is_ended : (s : State Part) (seen : Seen) (token : TextToken) (vars : ℕ) (f : Found) (at : Cursor) → Taken text names query rules there here first (go_on s) seen token
        → next_of here ≡ Ok None → at ≡ cursor text (length text) → vars ≡ seen.count → Closes (walk 1000 rules s (closing_of query None)) vars (length text) f
        → Finds later text fault (closing_of query fault) table (first ∷ ts0) at f
    is_ended s seen token vars f at taken is ends_at counted closes =
        let r = taken.each later ts0 fault ext lexes in
        let over = at_end r.1 is in
        let runs : run k ≡ scan_end later text fault (closing_of query fault) rules seen (walk 1000 rules s (closing_of query fault)) =
        r.2 ∙ ap (λ ts. scan later text fault (closing_of query fault) rules s seen (Some token) ts) over.0
        ∙ scan_last later text fault (closing_of query fault) (closing_apart query fault) rules s seen (Some token) in
        let behind : Lexes at [] fault =
        subst (λ (x : Cursor). Lexes x [] fault) (sym ends_at) (subst (λ (e : Option LexFault). Lexes (cursor text (length text)) [] e) (sym over.1) (ends (none_past text (length text) (omega arith)))) in
        closes_by (walk 1000 rules s (closing_of query fault)) seen vars f at behind over.1 counted runs
        (subst (λ (e : Option LexFault). Closes (walk 1000 rules s (closing_of query e)) vars (length text) f) (sym over.1) closes)

pub clause_by : (c : Clause) (t : Tree) (n : ℕ) → c.term ≡ t → c.vars ≡ n → c ≡ record { term = t; vars = n }
clause_by c t n h k =
    let f : Tree → ℕ → Clause = λ x m. record { term = x; vars = m } in
    ap (λ x. f x c.vars) h ∙ ap (λ m. f t m) k

pub text_here : (x : Cursor) (text : List ℕ) (at : ℕ) → x ≡ cursor text at → x.text ≡ text
text_here x text at h = ap (λ (y : Cursor). y.text) h

pub at_here : (x : Cursor) (text : List ℕ) (at : ℕ) → x ≡ cursor text at → x.at ≡ at
at_here x text at h = ap (λ (y : Cursor). y.at) h

pub given_here : (x : Cursor) (text : List ℕ) (at : ℕ) (t : TextToken) → x ≡ cursor text at → next_of x ≡ Ok (Some t) → IsTokenOf text t
given_here x text at t h is = (at, subst (λ (y : Cursor). next_of y ≡ Ok (Some t)) h is)

kind_count : (seen : Seen) (k : TokenKind) (bytes : List ℕ) → (kind_seen seen k bytes).count ≤ seen.count + 1
kind_count seen kind.Name bytes = omega arith
kind_count seen kind.Quoted bytes = omega arith
kind_count seen kind.Var bytes = variable_count seen bytes
kind_count seen (kind.Int i) bytes = omega arith
kind_count seen kind.Text bytes = omega arith
kind_count seen kind.Paren bytes = omega arith
kind_count seen kind.ParenEnd bytes = omega arith
kind_count seen kind.List bytes = omega arith
kind_count seen kind.ListEnd bytes = omega arith
kind_count seen kind.Curly bytes = omega arith
kind_count seen kind.CurlyEnd bytes = omega arith
kind_count seen kind.Comma bytes = omega arith
kind_count seen kind.Bar bytes = omega arith
kind_count seen kind.End bytes = omega arith

-- a token makes one variable more at most
pub count_after : (text : List ℕ) (seen : Seen) (t : TextToken) → (seen_after text seen t).count ≤ seen.count + 1
count_after text seen t = kind_count seen t.kind (bytes_of text t)

pub cursor_is : (x : Cursor) (text : List ℕ) (at : ℕ) → x.text ≡ text → x.at ≡ at → x ≡ cursor text at
cursor_is x text at h k = ap (λ t. cursor t x.at) h ∙ ap (λ n. cursor text n) k
