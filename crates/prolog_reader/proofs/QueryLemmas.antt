-- From the run of a query to what it reads as.
use Rattle.std.proofs.Common.{◌≡◌, ℕ, ◌≤◌, List, [], ◌∷◌, length, drop, Option, Some, None, Result, Ok, Err, true, refl, sym, ap, ◌∙◌, subst}
use Rattle.prolog_tokens.specs.Cursor.{Cursor, next_of}
use Rattle.prolog_tokens.specs.Stream.{Lexes}
use Rattle.prolog_tokens.specs.declared.token.Token.{Token as TextToken}
use Rattle.prolog_tokens.specs.declared.fault.LexFault.{LexFault}
use Rattle.prolog_tokens.proofs.StreamLemmas.{after_token, at_end, at_fault}
use Rattle.prolog_grammar.specs.Token.{End}
use Rattle.prolog_grammar.specs.Fault.{unexpected, Verdict}
use Rattle.prolog_grammar.specs.Placed.{Part, part_tree}
use Rattle.prolog_grammar.specs.Rules.{Rules}
use Rattle.prolog_grammar.specs.Machine.{start}
use Rattle.prolog_grammar.specs.Walk.{walk}
use Rattle.prolog_grammar.proofs.OneVerdict.{verdict_found}
use Rattle.prolog_reader.specs.declared.fault.ReadKind.{ReadKind}
use Rattle.prolog_reader.specs.declared.fault.ReadKind.TheVariants.{Lex, Unexpected}
use Rattle.prolog_reader.specs.declared.clause_reading.Found.{Found}
use Rattle.prolog_reader.specs.declared.clause_reading.Found.TheVariants as found
use Rattle.prolog_terms.specs.Clauses.{Clause}
use Rattle.prolog_operators.specs.Names.{Extends}
use Rattle.prolog_terms.specs.Symbols.{Seen}
use Rattle.prolog_operators.specs.Table.{Table}
use Rattle.term_parser.specs.Views.{table_rules}
use Rattle.prolog_reader.specs.Words.{known}
use Rattle.prolog_reader.specs.Reading.{Fault, fault_at, before_rest, ReadsBy, query_tokens, query_answer, if_nothing_left, end_of, by_tokens}
use Rattle.prolog_reader.specs.Answers.{AnswersQuery}
use Rattle.prolog_reader.specs.Scan.{Gives, Finds, closing_of}
use Rattle.prolog_reader.proofs.LexLemmas.{cursor}
use Rattle.prolog_reader.proofs.RunLemmas.{walk_none}
use Rattle.prolog_reader.proofs.AnswerLemmas.{lexed, clause_reads, clause_stops}

-- a query's tokens and what they read as
pub record Says (names : List (List ℕ)) (text : List ℕ) (fault : Option LexFault) (table : Table) (ts : List TextToken) (answer : Result Clause Fault) : Type 0 where
  pub verdict : Verdict Part
  pub reads : ReadsBy names text fault table (query_tokens names text fault ts) verdict
  pub is : answer ≡ query_answer names text fault ts verdict

whole : (text : List ℕ) (names : List (List ℕ)) (table : Table) (answer : Result Clause Fault) → length text ≤ 1048576
    → ((later : List (List ℕ)) (ts : List TextToken) (fault : Option LexFault) → Extends names later → Lexes (cursor text 0) ts fault → Says later text fault table ts answer)
    → AnswersQuery names table text answer
whole text names table answer short h = λ later ext.
    let l = lexed text in
    let s = h later l.tokens l.fault ext l.lexes in
    by_tokens l.tokens l.fault s.verdict short l.lexes s.reads s.is

-- an End alone is unexpected
only_end : (rules : Rules Part) → walk 1000 rules start (End ∷ []) ≡ Err (unexpected (End ∷ []))
unfolding walk
only_end rules = refl

empty_says : (names : List (List ℕ)) (text : List ℕ) (table : Table) → Says names text None table [] (Err (Unexpected, length text))
empty_says names text table = record {
  verdict = Err (unexpected (End ∷ []));
  reads = subst (λ v. ReadsBy names text None table (End ∷ []) v) (only_end (table_rules table (known names))) (verdict_found 1000 table.infixes table.prefixes (known names) (End ∷ []));
  is = refl;
}

lexical_says : (names : List (List ℕ)) (text : List ℕ) (table : Table) (f : LexFault) → Says names text (Some f) table [] (Err (Lex f.kind, f.at))
lexical_says names text table f = record {
  verdict = Err (unexpected []);
  reads = subst (λ v. ReadsBy names text (Some f) table [] v) (walk_none (table_rules table (known names)) start) (verdict_found 1000 table.infixes table.prefixes (known names) []);
  is = refl;
}

-- the same where the tokens and the fault are known to be these
as_says : (names : List (List ℕ)) (text : List ℕ) (table : Table) (ts ts' : List TextToken) (e e' : Option LexFault) (answer : Result Clause Fault) → ts ≡ ts' → e ≡ e'
    → Says names text e' table ts' answer → Says names text e table ts answer
as_says names text table ts ts' e e' answer h k s =
    subst (λ xs. Says names text e table xs answer) (sym h) (subst (λ x. Says names text x table ts' answer) (sym k) s)

module _ (text : List ℕ) (names : List (List ℕ)) (table : Table) (here : Cursor) (at : here ≡ cursor text 0) (short : length text ≤ 1048576) where
  at_start : (ts : List TextToken) (fault : Option LexFault) → Lexes (cursor text 0) ts fault → Lexes here ts fault
  at_start ts fault lexes = subst (λ (c : Cursor). Lexes c ts fault) (sym at) lexes

  -- an empty query
  pub query_empty : next_of here ≡ Ok None → AnswersQuery names table text (Err (Unexpected, length text))
  query_empty is = whole text names table (Err (Unexpected, length text)) short (λ later ts fault ext lexes.
      let over = at_end (at_start ts fault lexes) is in
      as_says later text table ts [] fault None (Err (Unexpected, length text)) over.0 over.1 (empty_says later text table))

  -- a lexical fault before all tokens
  pub query_lexical : (f : LexFault) → next_of here ≡ Err f → AnswersQuery names table text (Err (Lex f.kind, f.at))
  query_lexical f is = whole text names table (Err (Lex f.kind, f.at)) short (λ later ts fault ext lexes.
      let over = at_fault (at_start ts fault lexes) f is in
      as_says later text table ts [] fault (Some f) (Err (Lex f.kind, f.at)) over.0 over.1 (lexical_says later text table f))

  module _ (names' : List (List ℕ)) (kept : Extends names names') (t : TextToken) (is : next_of here ≡ Ok (Some t)) (there there' : Cursor) (begins : there ≡ cursor text t.end) where
    abbrev FindsAll : Found → Type 0
    FindsAll f = (later : List (List ℕ)) (ts : List TextToken) (fault : Option LexFault) → Extends names' later → Lexes there ts fault
        → Finds later text fault (closing_of true fault) table (t ∷ ts) there' f

    -- the tokens after the first one
    behind : (ts : List TextToken) (fault : Option LexFault) → Lexes (cursor text 0) ts fault → (more : List TextToken) × (ts ≡ t ∷ more) × Lexes there more fault
    behind ts fault lexes =
        let after = after_token (at_start ts fault lexes) t is in
        (after.more, after.first, subst (λ (c : Cursor). Lexes c after.more fault) (ap (λ (c : Cursor). cursor c.text t.end) at ∙ sym begins) after.later)

    by_first : (later : List (List ℕ)) (ts more : List TextToken) (fault : Option LexFault) (answer : Result Clause Fault) → ts ≡ t ∷ more
        → Says later text fault table (t ∷ more) answer → Says later text fault table ts answer
    by_first later ts more fault answer h s = as_says later text table ts (t ∷ more) fault fault answer h refl s

    -- a query that is refused
    pub query_refused : (kind : ReadKind) (place : ℕ) (f : Found) → f ≡ found.Refused kind place → FindsAll f → AnswersQuery names' table text (Err (kind, place))
    query_refused kind place f e finds = whole text names' table (Err (kind, place)) short (λ later ts fault ext lexes.
        let b = behind ts fault lexes in
        let run = subst (λ (x : Found). Finds later text fault (closing_of true fault) table (t ∷ b.0) there' x) e (finds later b.0 fault ext b.2) in
        let r = clause_stops later text fault (end_of fault) table (t ∷ b.0) kind place run in
        by_first later ts b.0 fault (Err (kind, place)) b.1 (record { verdict = Err r.of; reads = r.reads; is = ap (λ x. Err x) (sym r.fault_is) }))

    -- a query's clause, by what stands after it
    clause_says : (later : List (List ℕ)) (more : List TextToken) (fault : Option LexFault) (c : Clause) → (g : Gives later text fault (closing_of true fault) table (t ∷ more) there' c)
        → Says later text fault table (t ∷ more) (if_nothing_left g.rest fault c (fault_at (length text) fault g.rest))
    clause_says later more fault c g =
        let r = clause_reads later text fault (end_of fault) table (t ∷ more) g.part g.seen g.rest g.runs in
        record {
          verdict = Ok (g.part, r.behind);
          reads = r.reads;
          is = ap (λ (xs : List TextToken). if_nothing_left xs fault c (fault_at (length text) fault xs)) r.rest_is
              ∙ ap (λ (x : Clause). if_nothing_left (drop (before_rest (query_tokens later text fault (t ∷ more)) r.behind) (t ∷ more)) fault x
              (fault_at (length text) fault (drop (before_rest (query_tokens later text fault (t ∷ more)) r.behind) (t ∷ more))))
              (g.is ∙ ap (λ (s : Seen). record { term = part_tree g.part; vars = s.count }) r.seen_is);
        }

    module _ (c : Clause) (f : Found) (gives : (later : List (List ℕ)) (ts : List TextToken) (fault : Option LexFault) → Extends names' later → Lexes there ts fault
        → Gives later text fault (closing_of true fault) table (t ∷ ts) there' c) where
      -- nothing stands after it
      pub query_read : next_of there' ≡ Ok None → AnswersQuery names' table text (Ok c)
      query_read ends = whole text names' table (Ok c) short (λ later ts fault ext lexes.
          let b = behind ts fault lexes in
          let g = gives later b.0 fault ext b.2 in
          let over = at_end g.later ends in
          by_first later ts b.0 fault (Ok c) b.1 (subst (λ (a : Result Clause Fault). Says later text fault table (t ∷ b.0) a)
          (ap (λ (xs : List TextToken). if_nothing_left xs fault c (fault_at (length text) fault xs)) over.0 ∙ ap (λ (e : Option LexFault). if_nothing_left [] e c (fault_at (length text) e [])) over.1)
          (clause_says later b.0 fault c g)))

      -- a token stands after it
      pub query_followed : (u : TextToken) → next_of there' ≡ Ok (Some u) → AnswersQuery names' table text (Err (Unexpected, u.start))
      query_followed u ends = whole text names' table (Err (Unexpected, u.start)) short (λ later ts fault ext lexes.
          let b = behind ts fault lexes in
          let g = gives later b.0 fault ext b.2 in
          let after = after_token g.later u ends in
          by_first later ts b.0 fault (Err (Unexpected, u.start)) b.1 (subst (λ (a : Result Clause Fault). Says later text fault table (t ∷ b.0) a)
          (ap (λ (xs : List TextToken). if_nothing_left xs fault c (fault_at (length text) fault xs)) after.first)
          (clause_says later b.0 fault c g)))

      -- a lexical fault stands after it
      pub query_then_lexical : (e : LexFault) → next_of there' ≡ Err e → AnswersQuery names' table text (Err (Lex e.kind, e.at))
      query_then_lexical e ends = whole text names' table (Err (Lex e.kind, e.at)) short (λ later ts fault ext lexes.
          let b = behind ts fault lexes in
          let g = gives later b.0 fault ext b.2 in
          let over = at_fault g.later e ends in
          by_first later ts b.0 fault (Err (Lex e.kind, e.at)) b.1 (subst (λ (a : Result Clause Fault). Says later text fault table (t ∷ b.0) a)
          (ap (λ (xs : List TextToken). if_nothing_left xs fault c (fault_at (length text) fault xs)) over.0 ∙ ap (λ (x : Option LexFault). if_nothing_left [] x c (fault_at (length text) x [])) over.1)
          (clause_says later b.0 fault c g)))
