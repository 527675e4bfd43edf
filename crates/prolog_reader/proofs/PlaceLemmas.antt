-- Faults and terms stand within the text.
use Rattle.std.proofs.Common.{◌≡◌, ℕ, zero, suc, ◌≤◌, Bool, true, false, nat_lt, List, [], ◌∷◌, ◌++◌, length, drop, Option, Some, None, Result, Ok, Err, IfOk, IfErr, sym, ◌∙◌, subst, ⊎_elim, ltb-true, ltb-false, arith}
use Rattle.std.specs.List.{AllByRecursion}
use Rattle.prolog_tokens.specs.Cursor.{Cursor, next_of}
use Rattle.prolog_tokens.specs.Stream.{Lexes, ends, fails, goes_on}
use Rattle.prolog_tokens.specs.Decoding.{bytes_of}
use Rattle.prolog_tokens.specs.declared.token.TokenKind.{TokenKind}
use Rattle.prolog_tokens.specs.declared.token.TokenKind.TheVariants as kind
use Rattle.prolog_tokens.specs.declared.token.Token.{Token as TextToken}
use Rattle.prolog_tokens.specs.declared.fault.LexFault.{LexFault}
use Rattle.prolog_tokens.proofs.CharacterLemmas.{either}
use Rattle.prolog_tokens.proofs.FaultPlaces.{fault_within}
use Rattle.prolog_tokens.proofs.NextLemmas.{token_within}
use Rattle.prolog_grammar.specs.Token.{Token}
use Rattle.prolog_grammar.specs.Fault.{ReadFault as ClauseFault, unexpected, deep, Verdict}
use Rattle.prolog_grammar.specs.Placed.{Part, part_tree}
use Rattle.prolog_grammar.specs.Places.{IsPlaced}
use Rattle.prolog_grammar.proofs.PlacesKept.{IsWithin, reading_placed}
use Rattle.prolog_terms.specs.declared.clause.ReadClause.{ReadClause}
use Rattle.prolog_reader.specs.declared.fault.ReadFault.{ReadFault}
use Rattle.prolog_reader.specs.declared.fault.ReadFault.TheVariants.{Fault as Refused, Memory}
use Rattle.prolog_reader.specs.declared.text.ReadText.{ReadText}
use Rattle.prolog_reader.specs.Answers.{AnswersText, AnswersQuery, RefusesText, RefusesQuery}
use Rattle.prolog_terms.specs.Clauses.{Clause}
use Rattle.prolog_operators.specs.Meanings.{table_of}
use Rattle.prolog_reader.specs.Places.{ArePlacedClauses, IsFaultPlaced}
use Rattle.prolog_terms.specs.Terms.{clause_of}
use Rattle.prolog_terms.specs.Symbols.{Seen, none_seen, kind_token, touches_before, joins_before, tokens_of, seen_after}
use Rattle.prolog_operators.specs.Table.{Table}
use Rattle.prolog_reader.specs.Words.{known}
use Rattle.prolog_reader.specs.Reading.{Fault, Answer, fault_at, place_at, before_rest, clause_at, clause_fault, with_clause, if_nothing_left, end_of, clause_tokens, ReadsBy, Answers, all_read, stops, bad_operator, one_more, IsTextAnswer, too_long, by_clauses, query_tokens, query_answer, IsQueryAnswer, too_long_query, by_tokens}
use Rattle.prolog_operators.proofs.NameLemmas.{extends_self}
use Rattle.prolog_reader.proofs.LexLemmas.{cursor, none_past}

-- the tokens, and the fault after them
abbrev Within : ℕ → List TextToken → Type 0
Within size ts = AllByRecursion (λ (t : TextToken). t.start ≤ size) ts

abbrev FaultWithin : ℕ → Option LexFault → Type 0
FaultWithin size None = Unit {0}
FaultWithin size (Some f) = f.at ≤ size

fault_here : (text : List ℕ) (at : ℕ) (f : LexFault) → next_of (cursor text at) ≡ Err f → f.at ≤ length text
fault_here text at f is = ⊎_elim past here (either (nat_lt (length text) at))
  where
    past : nat_lt (length text) at ≡ true → f.at ≤ length text
    past p = let both = sym (none_past text at (omega (arith, ltb-true (length text) at p))) ∙ is in cc

    here : nat_lt (length text) at ≡ false → f.at ≤ length text
    here p = fault_within (cursor text at) f (ltb-false (length text) at p) is

lexes_within : {c : Cursor} {ts : List TextToken} {e : Option LexFault} → Lexes c ts e → Within (length c.text) ts × FaultWithin (length c.text) e
lexes_within (ends h) = (tt, tt)
lexes_within (fails {c = c} {e = f} h) = (tt, fault_here c.text c.at f h)
lexes_within (goes_on {c = c} {t = t} h later) =
    let rest = lexes_within later in
    let inside = token_within c.text t (c.at, h) in
    ((omega (arith, inside), rest.0), rest.1)

module _ (size : ℕ) where
  kind_within : (names : List (List ℕ)) (seen : Seen) (touching joined : Bool) (k : TokenKind) (bytes : List ℕ) (at : ℕ) → at ≤ size
      → IsWithin size (kind_token names seen touching joined k bytes at)
  kind_within names seen touching joined kind.Name bytes at h = h
  kind_within names seen touching joined kind.Quoted bytes at h = h
  kind_within names seen touching joined kind.Var bytes at h = h
  kind_within names seen touching true (kind.Int i) bytes at h = h
  kind_within names seen touching false (kind.Int i) bytes at h = h
  kind_within names seen touching joined kind.Text bytes at h = h
  kind_within names seen true joined kind.Paren bytes at h = h
  kind_within names seen false joined kind.Paren bytes at h = h
  kind_within names seen touching joined kind.ParenEnd bytes at h = tt
  kind_within names seen touching joined kind.List bytes at h = h
  kind_within names seen touching joined kind.ListEnd bytes at h = tt
  kind_within names seen touching joined kind.Curly bytes at h = h
  kind_within names seen touching joined kind.CurlyEnd bytes at h = tt
  kind_within names seen touching joined kind.Comma bytes at h = tt
  kind_within names seen touching joined kind.Bar bytes at h = tt
  kind_within names seen touching joined kind.End bytes at h = tt

  tokens_within : (names : List (List ℕ)) (text : List ℕ) (seen : Seen) (before : Option TextToken) (ts : List TextToken) → Within size ts
      → AllByRecursion (IsWithin size) (tokens_of names text seen before ts)
  tokens_within names text seen before [] h = tt
  tokens_within names text seen before (t ∷ ts) h =
      (kind_within names seen (touches_before before t) (joins_before text before t) t.kind (bytes_of text t) t.start h.0, tokens_within names text (seen_after text seen t) (Some t) ts h.1)

  with_end : (e : Option LexFault) (us : List Token) → AllByRecursion (IsWithin size) us → AllByRecursion (IsWithin size) (us ++ end_of e)
  with_end (Some f) [] h = tt
  with_end None [] h = (tt, tt)
  with_end e (u ∷ us) h = (h.0, with_end e us h.1)

  drop_within : (n : ℕ) (ts : List TextToken) → Within size ts → Within size (drop n ts)
  drop_within zero ts h = h
  drop_within (suc n) [] h = tt
  drop_within (suc n) (t ∷ ts) h = drop_within n ts h.1

  fault_placed : (e : Option LexFault) (ts : List TextToken) → Within size ts → FaultWithin size e → (fault_at size e ts).1 ≤ size
  fault_placed e (t ∷ ts) h k = h.0
  fault_placed (Some f) [] h k = k
  fault_placed None [] h k = omega arith

  place_within : (ts : List TextToken) → Within size ts → place_at size ts ≤ size
  place_within (t ∷ ts) h = h.0
  place_within [] h = omega arith

  clause_fault_placed : (e : Option LexFault) (ts : List TextToken) (us : List Token) (f : ClauseFault) → Within size ts → FaultWithin size e → (clause_fault size e ts us f).1 ≤ size
  clause_fault_placed e ts us (unexpected rest) h k = fault_placed e (drop (before_rest us rest) ts) (drop_within (before_rest us rest) ts h) k
  clause_fault_placed e ts us (deep rest) h k = place_within (drop (before_rest us rest) ts) (drop_within (before_rest us rest) ts h)

  -- the clauses stand within the text, or the fault does
  abbrev pub AnswerPlaced : Answer → Type 0
  AnswerPlaced (Ok r) = ArePlacedClauses size r.0
  AnswerPlaced (Err f) = f.1 ≤ size

  abbrev pub QueryPlaced : Result Clause Fault → Type 0
  QueryPlaced (Ok c) = IsPlaced size c.term
  QueryPlaced (Err f) = f.1 ≤ size

  one_more_placed : (c : Clause) (a : Answer) → IsPlaced size c.term → AnswerPlaced a → AnswerPlaced (with_clause c a)
  one_more_placed c (Ok r) h k = (h, k)
  one_more_placed c (Err f) h k = k

  nothing_left_placed : (ts : List TextToken) (e : Option LexFault) (c : Clause) (f : Fault) → IsPlaced size c.term → f.1 ≤ size → QueryPlaced (if_nothing_left ts e c f)
  nothing_left_placed [] None c f h k = h
  nothing_left_placed [] (Some e) c f h k = k
  nothing_left_placed (t ∷ ts) None c f h k = k
  nothing_left_placed (t ∷ ts) (Some e) c f h k = k

module _ (names : List (List ℕ)) (text : List ℕ) (fault : Option LexFault) (within : FaultWithin (length text) fault) where
  -- a clause that is read of tokens within the text
  part_placed : (table : Table) (us : List Token) (part : Part) (rest : List Token) → AllByRecursion (IsWithin (length text)) us → ReadsBy names text fault table us (Ok (part, rest))
      → IsPlaced (length text) (part_tree part)
  part_placed table us part rest h reads = reading_placed (length text) 1000 (known names) table.infixes table.prefixes us rest part reads h

  answers_placed : {table : Table} {ts : List TextToken} {a : Answer} → Answers names text fault table ts a → Within (length text) ts → AnswerPlaced (length text) a
  answers_placed (all_read e) h = tt
  answers_placed {ts = ts} (stops f left v is) h =
      subst (AnswerPlaced (length text)) (sym is) (clause_fault_placed (length text) fault ts (clause_tokens names text fault ts) f h within)
  answers_placed {table = table} {ts = ts} (bad_operator part rest v does is) h =
      subst (AnswerPlaced (length text)) (sym is) (part_placed table (clause_tokens names text fault ts) part rest (tokens_within (length text) names text none_seen None ts h) v).0
  answers_placed {table = table} {ts = ts} (one_more table' part rest others v does more is) h =
      let us = clause_tokens names text fault ts in
      subst (AnswerPlaced (length text)) (sym is)
      (one_more_placed (length text) (clause_at text ts (before_rest us rest) part) others (part_placed table us part rest (tokens_within (length text) names text none_seen None ts h) v)
      (answers_placed more (drop_within (length text) (before_rest us rest) ts h)))

  query_placed_by : (table : Table) (ts : List TextToken) (v : Verdict Part) → ReadsBy names text fault table (query_tokens names text fault ts) v → Within (length text) ts
      → QueryPlaced (length text) (query_answer names text fault ts v)
  query_placed_by table ts (Err f) reads h = clause_fault_placed (length text) fault ts (query_tokens names text fault ts) f h within
  query_placed_by table ts (Ok r) reads h =
      let us = query_tokens names text fault ts in
      let left = drop (before_rest us r.1) ts in
      nothing_left_placed (length text) left fault (clause_at text ts (before_rest us r.1) r.0) (fault_at (length text) fault left)
      (part_placed table us r.0 r.1 (with_end (length text) fault (clause_tokens names text fault ts) (tokens_within (length text) names text none_seen None ts h)) reads)
      (fault_placed (length text) fault left (drop_within (length text) (before_rest us r.1) ts h) within)

-- what a text reads as stands within it
pub text_placed : (names : List (List ℕ)) (text : List ℕ) (a : Answer) → IsTextAnswer names text a → AnswerPlaced (length text) a
text_placed names text a (too_long h is) = subst (AnswerPlaced (length text)) (sym is) (omega arith)
text_placed names text a (by_clauses ts e short lexes answers) = let l = lexes_within lexes in answers_placed names text e l.1 answers l.0

pub query_placed : (names : List (List ℕ)) (table : Table) (text : List ℕ) (a : Result Clause Fault) → IsQueryAnswer names table text a → QueryPlaced (length text) a
query_placed names table text a (too_long_query h is) = subst (QueryPlaced (length text)) (sym is) (omega arith)
query_placed names table text a (by_tokens ts e v short lexes reads is) =
    let l = lexes_within lexes in subst (QueryPlaced (length text)) (sym is) (query_placed_by names text e l.1 table ts v reads l.0)

-- the same of the results of calls
pub found_placed : (names : List (List ℕ)) (text : List ℕ) (r : Result ReadText ReadFault) → IfOk r (λ read. AnswersText names text (Ok (read.clauses, table_of read.ops)))
    → IfOk r (λ read. ArePlacedClauses (length text) read.clauses)
found_placed names text (Ok read) h = text_placed names text _ (h names (extends_self names))
found_placed names text (Err f) h = tt

pub refused_placed : (names : List (List ℕ)) (text : List ℕ) (r : Result ReadText ReadFault) → IfErr r (λ f. RefusesText names text f) → IfErr r (λ f. IsFaultPlaced (length text) f)
refused_placed names text (Ok read) h = tt
refused_placed names text (Err (Refused kind at)) h = text_placed names text (Err (kind, at)) (h names (extends_self names))
refused_placed names text (Err Memory) h = tt

pub query_found_placed : (names : List (List ℕ)) (table : Table) (text : List ℕ) (r : Result ReadClause ReadFault) → IfOk r (λ c. AnswersQuery names table text (Ok (clause_of c)))
    → IfOk r (λ c. IsPlaced (length text) (clause_of c).term)
query_found_placed names table text (Ok c) h = query_placed names table text _ (h names (extends_self names))
query_found_placed names table text (Err f) h = tt

pub query_refused_placed : (names : List (List ℕ)) (table : Table) (text : List ℕ) (r : Result ReadClause ReadFault) → IfErr r (λ f. RefusesQuery names table text f)
    → IfErr r (λ f. IsFaultPlaced (length text) f)
query_refused_placed names table text (Ok c) h = tt
query_refused_placed names table text (Err (Refused kind at)) h = query_placed names table text (Err (kind, at)) (h names (extends_self names))
query_refused_placed names table text (Err Memory) h = tt
