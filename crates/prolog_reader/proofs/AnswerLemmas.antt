-- From the run of a clause to what a text reads as.
use Rattle.std.proofs.Common.{◌≡◌, ℕ, zero, suc, ◌+◌, ◌≤◌, ◌<◌, List, [], ◌∷◌, ◌++◌, length, take, drop, Option, Some, None, Result, Ok, Err, refl, sym, ap, ◌∙◌, subst, append-nil, append_assoc, arith}
use Rattle.prolog_tokens.specs.Cursor.{Cursor, next_of}
use Rattle.prolog_tokens.specs.Stream.{Lexes, ends, fails, goes_on}
use Rattle.prolog_tokens.specs.declared.token.Token.{Token as TextToken}
use Rattle.prolog_tokens.specs.declared.fault.LexFault.{LexFault}
use Rattle.prolog_tokens.proofs.NextLemmas.{token_within}
use Rattle.prolog_grammar.specs.Token.{Token}
use Rattle.prolog_grammar.specs.Fault.{ReadFault as ClauseFault, unexpected, Verdict}
use Rattle.prolog_grammar.specs.Placed.{Tree, Part, part_tree}
use Rattle.prolog_grammar.specs.Rules.{Rules}
use Rattle.prolog_grammar.specs.Machine.{start}
use Rattle.prolog_grammar.specs.Walk.{walk}
use Rattle.prolog_grammar.proofs.OneVerdict.{verdict_found}
use Rattle.prolog_reader.specs.declared.fault.ReadKind.{ReadKind}
use Rattle.prolog_reader.specs.declared.fault.ReadKind.TheVariants.{Lex, BadOp}
use Rattle.prolog_terms.specs.Clauses.{Clause, place}
use Rattle.prolog_terms.specs.Symbols.{Seen, none_seen, tokens_of, seen_after_all}
use Rattle.prolog_operators.specs.Table.{Table, standard}
use Rattle.term_parser.specs.Views.{table_rules}
use Rattle.prolog_reader.specs.Words.{known, words_of}
use Rattle.prolog_reader.specs.Directive.{sets, refuses, effect}
use Rattle.prolog_reader.specs.Reading.{Fault, Answer, fault_at, before_rest, clause_fault, with_clause, IsLeft, clause_tokens, ReadsBy, Answers, by_clauses, all_read, stops, bad_operator, one_more}
use Rattle.prolog_reader.specs.Scan.{Outcome, scan, Gives, Finds}
use Rattle.prolog_reader.specs.Answers.{AnswersText}
use Rattle.prolog_operators.specs.Names.{Extends}
use Rattle.prolog_terms.specs.Terms.{tree_of, clause_of}
use Rattle.prolog_terms.specs.declared.clause.ReadClause.{ReadClause}
use Rattle.prolog_reader.specs.declared.clause_reading.Found.{Found}
use Rattle.prolog_reader.specs.declared.clause_reading.Found.TheVariants as found
use Rattle.prolog_tokens.proofs.StreamLemmas.{after_token, at_end, at_fault}
use Rattle.prolog_operators.proofs.NameLemmas.{extends_trans}
use Rattle.prolog_reader.proofs.ViewLemmas.{tree_of_parts}
use Rattle.prolog_reader.proofs.LexLemmas.{cursor, next_token}
use Rattle.prolog_reader.proofs.ScanLemmas.{outcome, scan_is, drop_none}
use Rattle.prolog_reader.proofs.RunLemmas.{walk_none}

-- a text has tokens, and a fault after them or none
pub record Lexed (text : List ℕ) (at : ℕ) : Type 0 where
  pub tokens : List TextToken
  pub fault : Option LexFault
  pub lexes : Lexes (cursor text at) tokens fault

-- where the next token stands
token_on : (text : List ℕ) (at : ℕ) (t : TextToken) → next_of (cursor text at) ≡ Ok (Some t) → (at < t.end) × (t.end ≤ length text)
token_on text at t is =
    let next = next_token text t at is in
    let within = token_within text t (at, is) in
    (omega (arith, next.start, within), within.1)

lexed_by : (text : List ℕ) (at : ℕ) (r : Result (Option TextToken) LexFault) → next_of (cursor text at) ≡ r → ((t : TextToken) → r ≡ Ok (Some t) → Lexed text t.end) → Lexed text at
lexed_by text at (Ok None) is later = record { tokens = []; fault = None; lexes = ends is }
lexed_by text at (Err f) is later = record { tokens = []; fault = Some f; lexes = fails is }
lexed_by text at (Ok (Some t)) is later = let rest = later t refl in record { tokens = t ∷ rest.tokens; fault = rest.fault; lexes = goes_on is rest.lexes }

lexed_within : (n : ℕ) (text : List ℕ) (at : ℕ) → length text ≤ at + n → Lexed text at
lexed_within zero text at h = lexed_by text at (next_of (cursor text at)) refl (λ t is. absurd (let on = token_on text at t is in omega (arith, h, on)))
lexed_within (suc n) text at h = lexed_by text at (next_of (cursor text at)) refl (λ t is. lexed_within n text t.end (let on = token_on text at t is in omega (arith, h, on)))

pub lexed : (text : List ℕ) → Lexed text 0
lexed text = lexed_within (length text) text 0 (omega arith)

-- the run as an outcome that is known
module _ (names : List (List ℕ)) (text : List ℕ) (fault : Option LexFault) (closing : List Token) (table : Table) where
  abbrev rules : Rules Part
  rules = table_rules table (known names)

  -- what a clause reads as, where its run gives a term
  pub record ClauseReads (ts : List TextToken) (part : Part) (seen : Seen) (rest : List TextToken) : Type 0 where
    pub behind : List Token
    pub reads : ReadsBy names text fault table (tokens_of names text none_seen None ts ++ closing) (Ok (part, behind))
    pub seen_is : seen ≡ seen_after_all text none_seen (take (before_rest (tokens_of names text none_seen None ts ++ closing) behind) ts)
    pub rest_is : rest ≡ drop (before_rest (tokens_of names text none_seen None ts ++ closing) behind) ts

  pub record ClauseStops (ts : List TextToken) (kind : ReadKind) (at : ℕ) : Type 0 where
    pub of : ClauseFault
    pub reads : ReadsBy names text fault table (tokens_of names text none_seen None ts ++ closing) (Err of)
    pub fault_is : clause_fault (length text) fault ts (tokens_of names text none_seen None ts ++ closing) of ≡ (kind, at)

  reads_by : (ts : List TextToken) (part : Part) (seen : Seen) (rest : List TextToken) (v : Verdict Part)
      → ReadsBy names text fault table (tokens_of names text none_seen None ts ++ closing) v
      → outcome names text fault closing rules none_seen ts (tokens_of names text none_seen None ts ++ closing) v ≡ Ok (part, (seen, rest)) → ClauseReads ts part seen rest
  reads_by ts part seen rest (Ok r) is h =
      let parts = ok_is _ _ h in
      record {
        behind = r.1;
        reads = subst (λ (p : Part). ReadsBy names text fault table (tokens_of names text none_seen None ts ++ closing) (Ok (p, r.1))) (ap (λ (q : Part × (Seen × List TextToken)). q.0) parts) is;
        seen_is = sym (ap (λ (q : Part × (Seen × List TextToken)). q.1.0) parts);
        rest_is = sym (ap (λ (q : Part × (Seen × List TextToken)). q.1.1) parts);
      }
    where
      ok_is : (x y : Part × (Seen × List TextToken)) → ◌≡◌ {A = Outcome} (Ok x) (Ok y) → x ≡ y
      ok_is x y h = cc
  reads_by ts part seen rest (Err f) is h = cc

  stops_by : (ts : List TextToken) (kind : ReadKind) (at : ℕ) (v : Verdict Part)
      → ReadsBy names text fault table (tokens_of names text none_seen None ts ++ closing) v
      → outcome names text fault closing rules none_seen ts (tokens_of names text none_seen None ts ++ closing) v ≡ Err (kind, at) → ClauseStops ts kind at
  stops_by ts kind at (Ok r) is h = cc
  stops_by ts kind at (Err f) is h = record { of = f; reads = is; fault_is = err_is _ _ h }
    where
      err_is : (x y : Fault) → ◌≡◌ {A = Outcome} (Err x) (Err y) → x ≡ y
      err_is x y h = cc

  pub clause_reads : (ts : List TextToken) (part : Part) (seen : Seen) (rest : List TextToken)
      → scan names text fault closing rules start none_seen None ts ≡ Ok (part, (seen, rest)) → ClauseReads ts part seen rest
  clause_reads ts part seen rest h =
      reads_by ts part seen rest (walk 1000 rules start (tokens_of names text none_seen None ts ++ closing))
      (verdict_found 1000 table.infixes table.prefixes (known names) (tokens_of names text none_seen None ts ++ closing))
      (sym (scan_is names text fault closing rules ts start none_seen None) ∙ h)

  pub clause_stops : (ts : List TextToken) (kind : ReadKind) (at : ℕ) → scan names text fault closing rules start none_seen None ts ≡ Err (kind, at) → ClauseStops ts kind at
  clause_stops ts kind at h =
      stops_by ts kind at (walk 1000 rules start (tokens_of names text none_seen None ts ++ closing))
      (verdict_found 1000 table.infixes table.prefixes (known names) (tokens_of names text none_seen None ts ++ closing))
      (sym (scan_is names text fault closing rules ts start none_seen None) ∙ h)

-- clauses in front of an answer
abbrev pub prepend : List Clause → Answer → Answer
prepend cs (Ok r) = Ok (cs ++ r.0, r.1)
prepend cs (Err e) = Err e

pub prepend_push : (cs : List Clause) (c : Clause) (a : Answer) → prepend (cs ++ c ∷ []) a ≡ prepend cs (with_clause c a)
prepend_push cs c (Ok r) = ap (λ (ds : List Clause). Ok (ds, r.1)) (append_assoc cs (c ∷ []) r.0)
prepend_push cs c (Err e) = refl

pub prepend_none : (a : Answer) → prepend [] a ≡ a
prepend_none (Ok r) = refl
prepend_none (Err e) = refl

module _ (names : List (List ℕ)) (text : List ℕ) (fault : Option LexFault) (table : Table) where
  no_closing : (ts : List TextToken) → tokens_of names text none_seen None ts ++ [] ≡ clause_tokens names text fault ts
  no_closing ts = append-nil (tokens_of names text none_seen None ts)

  -- a clause that is read, and the others after it
  pub more_read : (t : TextToken) (ts : List TextToken) (at : Cursor) (c : Clause) (table' : Table) → (g : Gives names text fault [] table (t ∷ ts) at c)
      → effect (words_of names) table c.term ≡ sets table' → (others : Answer) → Answers names text fault table' g.rest others → Answers names text fault table (t ∷ ts) (with_clause c others)
  more_read t ts at c table' g does others rest =
      let r = clause_reads names text fault [] table (t ∷ ts) g.part g.seen g.rest g.runs in
      let us = no_closing (t ∷ ts) in
      let term : c.term ≡ part_tree g.part = ap (λ (x : Clause). x.term) g.is in
      one_more table' g.part r.behind others (subst (λ xs. ReadsBy names text fault table xs (Ok (g.part, r.behind))) us r.reads)
      (ap (effect (words_of names) table) (sym term) ∙ does)
      (subst (λ xs. Answers names text fault table' (drop (before_rest xs r.behind) (t ∷ ts)) others) us (subst (λ xs. Answers names text fault table' xs others) r.rest_is rest))
      (ap (λ x. with_clause x others) (g.is ∙ ap (λ (s : Seen). record { term = part_tree g.part; vars = s.count }) (r.seen_is ∙ ap (λ xs. seen_after_all text none_seen (take (before_rest xs r.behind) (t ∷ ts))) us)))

  -- an op clause that is refused
  pub bad_read : (t : TextToken) (ts : List TextToken) (at : Cursor) (c : Clause) → Gives names text fault [] table (t ∷ ts) at c
      → effect (words_of names) table c.term ≡ refuses → Answers names text fault table (t ∷ ts) (Err (BadOp, place c.term))
  bad_read t ts at c g does =
      let r = clause_reads names text fault [] table (t ∷ ts) g.part g.seen g.rest g.runs in
      let us = no_closing (t ∷ ts) in
      let term : c.term ≡ part_tree g.part = ap (λ (x : Clause). x.term) g.is in
      bad_operator g.part r.behind (subst (λ xs. ReadsBy names text fault table xs (Ok (g.part, r.behind))) us r.reads)
      (ap (effect (words_of names) table) (sym term) ∙ does) (ap (λ (x : Tree). Err (BadOp, place x)) term)

  -- a clause that is refused
  pub stops_read : (t : TextToken) (ts : List TextToken) (kind : ReadKind) (at : ℕ) → scan names text fault [] (table_rules table (known names)) start none_seen None (t ∷ ts) ≡ Err (kind, at)
      → Answers names text fault table (t ∷ ts) (Err (kind, at))
  stops_read t ts kind at h =
      let r = clause_stops names text fault [] table (t ∷ ts) kind at h in
      let us = no_closing (t ∷ ts) in
      stops r.of tt (subst (λ xs. ReadsBy names text fault table xs (Err r.of)) us r.reads)
      (ap (λ e. Err e) (sym r.fault_is ∙ ap (λ xs. clause_fault (length text) fault (t ∷ ts) xs r.of) us))

  -- a lexical fault where a clause begins
  pub lexical_read : (f : LexFault) → fault ≡ Some f → Answers names text fault table [] (Err (Lex f.kind, f.at))
  lexical_read f is =
      let verdict = verdict_found 1000 table.infixes table.prefixes (known names) [] in
      stops (unexpected []) (subst (IsLeft []) (sym is) tt) (subst (λ v. ReadsBy names text fault table [] v) (walk_none (table_rules table (known names)) start) verdict)
      (ap (λ e. Err (fault_at (length text) e [])) (sym is) ∙ ap (λ (xs : List TextToken). Err (fault_at (length text) fault xs)) (sym (drop_none {A = TextToken} 0)))

-- how the reading of a text stands before a clause: what is read from here stands after the clauses so far
pub record Reading (text : List ℕ) (names : List (List ℕ)) (begins : List (List ℕ) → Table) (here : Cursor) (table : Table) (clauses : List Clause) : Type 0 where
  pub each : (later : List (List ℕ)) (ts0 : List TextToken) (fault : Option LexFault) → Extends names later → Lexes (cursor text 0) ts0 fault
      → (ts : List TextToken) × Lexes here ts fault
      × ((a : Answer) → Answers later text fault table ts a → Answers later text fault (begins later) ts0 (prepend clauses a))

pub reading_start : (text : List ℕ) (names : List (List ℕ)) (here : Cursor) (table : Table) (clauses : List Clause) → here ≡ cursor text 0 → clauses ≡ []
    → ((later : List (List ℕ)) → Extends names later → table ≡ standard later) → Reading text names standard here table clauses
reading_start text names here table clauses at none is = record {
  each = λ later ts0 fault ext lexes. (
    ts0,
    subst (λ (c : Cursor). Lexes c ts0 fault) (sym at) lexes,
    λ a h. subst (λ (b : Answer). Answers later text fault (standard later) ts0 b) (sym (ap (λ (cs : List Clause). prepend cs a) none ∙ prepend_none a))
        (subst (λ (t : Table). Answers later text fault t ts0 a) (is later ext) h),
  );
}

-- the answer that is found for the whole text
pub whole : (text : List ℕ) (names : List (List ℕ)) (answer : Answer) → length text ≤ 1048576
    → ((later : List (List ℕ)) (ts0 : List TextToken) (fault : Option LexFault) → Extends names later → Lexes (cursor text 0) ts0 fault → Answers later text fault (standard later) ts0 answer)
    → AnswersText names text answer
whole text names answer short h = λ later ext.
    let l = lexed text in
    by_clauses l.tokens l.fault short l.lexes (h later l.tokens l.fault ext l.lexes)

module _ (text : List ℕ) (names names' : List (List ℕ)) (here : Cursor) (table : Table) (clauses : List Clause) (reading : Reading text names standard here table clauses) (kept : Extends names names')
    (short : length text ≤ 1048576) where
  -- the text ends
  pub ends_read : next_of here ≡ Ok None → AnswersText names text (Ok (clauses, table))
  ends_read is = whole text names (Ok (clauses, table)) short (λ later ts0 fault ext lexes.
      let r = reading.each later ts0 fault ext lexes in
      let over = at_end r.1 is in
      subst (λ (cs : List Clause). Answers later text fault (standard later) ts0 (Ok (cs, table))) (append-nil clauses)
      (r.2 (Ok ([], table)) (subst (λ (ts : List TextToken). Answers later text fault table ts (Ok ([], table))) (sym over.0) (all_read over.1))))

  -- a lexical fault stands where a clause begins
  pub lexical_found : (f : LexFault) → next_of here ≡ Err f → AnswersText names text (Err (Lex f.kind, f.at))
  lexical_found f is = whole text names (Err (Lex f.kind, f.at)) short (λ later ts0 fault ext lexes.
      let r = reading.each later ts0 fault ext lexes in
      let over = at_fault r.1 f is in
      r.2 (Err (Lex f.kind, f.at)) (subst (λ (ts : List TextToken). Answers later text fault table ts (Err (Lex f.kind, f.at))) (sym over.0) (lexical_read later text fault table f over.1)))

  module _ (t : TextToken) (is : next_of here ≡ Ok (Some t)) (same : here.text ≡ text) (there there' : Cursor) (begins : there ≡ cursor text t.end) where
    -- the tokens after the first one of a clause
    behind : (later : List (List ℕ)) (ts0 : List TextToken) (fault : Option LexFault) → Extends names later → Lexes (cursor text 0) ts0 fault
        → (ts : List TextToken) × Lexes there ts fault × ((a : Answer) → Answers later text fault table (t ∷ ts) a → Answers later text fault (standard later) ts0 (prepend clauses a))
    behind later ts0 fault ext lexes =
        let r = reading.each later ts0 fault ext lexes in
        let after = after_token r.1 t is in (
          after.more,
          subst (λ (c : Cursor). Lexes c after.more fault) (ap (λ (xs : List ℕ). cursor xs t.end) same ∙ sym begins) after.later,
          λ a h. r.2 a (subst (λ (ts : List TextToken). Answers later text fault table ts a) (sym after.first) h),
        )

    -- a clause is refused
    pub refused_found : (kind : ReadKind) (place : ℕ) (f : Found) → f ≡ found.Refused kind place
        → ((later : List (List ℕ)) (ts : List TextToken) (fault : Option LexFault) → Extends names' later → Lexes there ts fault → Finds later text fault [] table (t ∷ ts) there' f)
        → AnswersText names' text (Err (kind, place))
    refused_found kind place f e finds = whole text names' (Err (kind, place)) short (λ later ts0 fault ext lexes.
        let b = behind later ts0 fault (extends_trans names names' later kept ext) lexes in
        b.2 (Err (kind, place)) (stops_read later text fault table t b.0 kind place (subst (λ (x : Found). Finds later text fault [] table (t ∷ b.0) there' x) e (finds later b.0 fault ext b.1))))

    -- an op clause is refused
    pub bad_found : (c : ReadClause) (f : Found) → f ≡ found.Clause c
        → ((later : List (List ℕ)) (ts : List TextToken) (fault : Option LexFault) → Extends names' later → Lexes there ts fault → Finds later text fault [] table (t ∷ ts) there' f)
        → ((later : List (List ℕ)) → Extends names' later → effect (words_of later) table (tree_of c.term) ≡ refuses)
        → AnswersText names' text (Err (BadOp, c.term.at))
    bad_found c f e finds does = whole text names' (Err (BadOp, c.term.at)) short (λ later ts0 fault ext lexes.
        let b = behind later ts0 fault (extends_trans names names' later kept ext) lexes in
        let bad = bad_read later text fault table t b.0 there' (clause_of c) (subst (λ (x : Found). Finds later text fault [] table (t ∷ b.0) there' x) e (finds later b.0 fault ext b.1)) (does later ext) in
        b.2 (Err (BadOp, c.term.at)) (subst (λ (n : ℕ). Answers later text fault table (t ∷ b.0) (Err (BadOp, n))) (ap place (tree_of_parts c.term)) bad))

    -- a clause is read
    pub clause_found : (c : ReadClause) (f : Found) (table' : Table) (clauses' : List Clause) → f ≡ found.Clause c
        → ((later : List (List ℕ)) (ts : List TextToken) (fault : Option LexFault) → Extends names' later → Lexes there ts fault → Finds later text fault [] table (t ∷ ts) there' f)
        → ((later : List (List ℕ)) → Extends names' later → effect (words_of later) table (tree_of c.term) ≡ sets table')
        → clauses' ≡ clauses ++ clause_of c ∷ [] → Reading text names' standard there' table' clauses'
    clause_found c f table' clauses' e finds does pushed = record {
      each = λ later ts0 fault ext lexes.
          let b = behind later ts0 fault (extends_trans names names' later kept ext) lexes in
          let gives : Gives later text fault [] table (t ∷ b.0) there' (clause_of c) = subst (λ (x : Found). Finds later text fault [] table (t ∷ b.0) there' x) e (finds later b.0 fault ext b.1) in (
            gives.rest,
            gives.later,
            λ a h. subst (λ (x : Answer). Answers later text fault (standard later) ts0 x) (sym (ap (λ (cs : List Clause). prepend cs a) pushed ∙ prepend_push clauses (clause_of c) a))
                (b.2 (with_clause (clause_of c) a) (more_read later text fault table t b.0 there' (clause_of c) table' gives (does later ext) a h)),
          );
    }
