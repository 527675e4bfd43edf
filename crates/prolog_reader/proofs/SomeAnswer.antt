-- Each text has an answer by any names, and so has a query.
use Rattle.std.proofs.Common.{◌≡◌, ℕ, zero, suc, ◌≤◌, ◌<◌, true, false, nat_lt, List, [], ◌∷◌, length, drop, Option, Some, None, Result, Ok, Err, refl, ap, ⊎_elim, ltb-true, ltb-false, length-drop, arith}
use Rattle.prolog_tokens.specs.declared.token.Token.{Token as TextToken}
use Rattle.prolog_tokens.specs.declared.fault.LexFault.{LexFault}
use Rattle.prolog_tokens.proofs.CharacterLemmas.{either}
use Rattle.prolog_grammar.specs.Token.{Token, touches}
use Rattle.prolog_grammar.specs.Fault.{Verdict}
use Rattle.prolog_grammar.specs.Placed.{Part, part_tree}
use Rattle.prolog_grammar.specs.Rules.{Rules}
use Rattle.prolog_grammar.specs.Machine.{State, start}
use Rattle.prolog_grammar.specs.Walk.{Next, go_on, stuck, finished, unexpected_here, deep_here, walk_step, walked, walk}
use Rattle.prolog_grammar.proofs.OneVerdict.{verdict_found}
use Rattle.prolog_reader.specs.declared.fault.ReadKind.TheVariants.{Long, BadOp}
use Rattle.prolog_terms.specs.Clauses.{Clause}
use Rattle.prolog_terms.specs.Symbols.{Seen, none_seen, tokens_of, seen_after}
use Rattle.prolog_operators.specs.Table.{Table, standard}
use Rattle.term_parser.specs.Views.{table_rules}
use Rattle.prolog_reader.specs.Words.{known, words_of}
use Rattle.prolog_reader.specs.Directive.{Effect, sets, refuses, effect}
use Rattle.prolog_reader.specs.Reading.{Fault, Answer, before_rest, clause_at, clause_fault, with_clause, clause_tokens, ReadsBy, Answers, all_read, stops, bad_operator, one_more, IsTextAnswer, too_long, by_clauses, query_tokens, query_answer, IsQueryAnswer, too_long_query, by_tokens}
use Rattle.prolog_reader.proofs.AnswerLemmas.{lexed, lexical_read}

-- a clause takes a token at least
abbrev OkShorter : ℕ → Verdict Part → Type 0
OkShorter n (Ok r) = length r.1 < n
OkShorter n (Err f) = Unit {0}

shorter_more : (n : ℕ) (v : Verdict Part) → OkShorter n v → OkShorter (suc n) v
shorter_more n (Ok r) h = omega (arith, h)
shorter_more n (Err f) h = tt

module _ (rules : Rules Part) where
  shorter_by : (n : Next Part) (u : Token) (us : List Token) → ((s : State Part) → OkShorter (length us) (walk 1000 rules s us))
      → OkShorter (suc (length us)) (walked n (λ s. walk 1000 rules s us) (u ∷ us) us)
  shorter_by (go_on s) u us more = shorter_more (length us) _ (more s)
  shorter_by stuck u us more = tt
  shorter_by (finished p) u us more = omega arith
  shorter_by unexpected_here u us more = tt
  shorter_by deep_here u us more = tt

  shorter : (us : List Token) (s : State Part) → OkShorter (length us) (walk 1000 rules s us)
  unfolding walk
  shorter [] s = tt
  shorter (u ∷ us) s = shorter_by (walk_step 1000 rules s u (touches us)) u us (λ s'. shorter us s')

tokens_length : (names : List (List ℕ)) (text : List ℕ) (seen : Seen) (before : Option TextToken) (ts : List TextToken) → length (tokens_of names text seen before ts) ≡ length ts
tokens_length names text seen before [] = refl
tokens_length names text seen before (t ∷ ts) = ap suc (tokens_length names text (seen_after text seen t) (Some t) ts)

module _ (names : List (List ℕ)) (text : List ℕ) (fault : Option LexFault) where
  abbrev Some_answer : Table → List TextToken → Type 0
  Some_answer table ts = (a : Answer) × Answers names text fault table ts a

  -- the answer where nothing is left
  none_left : (table : Table) (e : Option LexFault) → fault ≡ e → Some_answer table []
  none_left table None is = (Ok ([], table), all_read is)
  none_left table (Some f) is = (_, lexical_read names text fault table f is)

  module _ (table : Table) (t : TextToken) (ts : List TextToken) (later : (table' : Table) (rest : List TextToken) → length rest ≤ length ts → Some_answer table' rest) where
    abbrev us : List Token
    us = clause_tokens names text fault (t ∷ ts)

    rest_short : (rest : List Token) → length rest < length us → length (drop (before_rest us rest) (t ∷ ts)) ≤ length ts
    rest_short rest h = omega (arith, h, length-drop (before_rest us rest) (t ∷ ts), tokens_length names text none_seen None (t ∷ ts))

    by_effect : (part : Part) (rest : List Token) (e : Effect) → effect (words_of names) table (part_tree part) ≡ e → ReadsBy names text fault table us (Ok (part, rest)) → length rest < length us
        → Some_answer table (t ∷ ts)
    by_effect part rest refuses does reads less = (Err (BadOp, part.at), bad_operator part rest reads does refl)
    by_effect part rest (sets table') does reads less =
        let others = later table' (drop (before_rest us rest) (t ∷ ts)) (rest_short rest less) in
        (with_clause (clause_at text (t ∷ ts) (before_rest us rest) part) others.0, one_more table' part rest others.0 reads does others.1 refl)

    by_verdict : (v : Verdict Part) → ReadsBy names text fault table us v → OkShorter (length us) v → Some_answer table (t ∷ ts)
    by_verdict (Err f) reads less = (Err (clause_fault (length text) fault (t ∷ ts) us f), stops f tt reads refl)
    by_verdict (Ok r) reads less = by_effect r.0 r.1 (effect (words_of names) table (part_tree r.0)) refl reads less

  some_answer : (n : ℕ) (table : Table) (ts : List TextToken) → length ts ≤ n → Some_answer table ts
  some_answer n table [] h = none_left table fault refl
  some_answer zero table (t ∷ ts) h = absurd (omega (arith, h))
  some_answer (suc n) table (t ∷ ts) h =
      let rules = table_rules table (known names) in
      let tokens = clause_tokens names text fault (t ∷ ts) in
      by_verdict table t ts (λ table' rest less. some_answer n table' rest (omega (arith, h, less)))
      (walk 1000 rules start tokens) (verdict_found 1000 table.infixes table.prefixes (known names) tokens) (shorter rules tokens start)

-- a text has an answer
pub text_answered : (names : List (List ℕ)) (text : List ℕ) → (a : Answer) × IsTextAnswer names text a
text_answered names text = ⊎_elim long short (either (nat_lt 1048576 (length text)))
  where
    long : nat_lt 1048576 (length text) ≡ true → (a : Answer) × IsTextAnswer names text a
    long h = (Err (Long, 0), too_long (ltb-true 1048576 (length text) h) refl)

    short : nat_lt 1048576 (length text) ≡ false → (a : Answer) × IsTextAnswer names text a
    short h =
        let l = lexed text in
        let a = some_answer names text l.fault (length l.tokens) (standard names) l.tokens (omega arith) in
        (a.0, by_clauses l.tokens l.fault (ltb-false 1048576 (length text) h) l.lexes a.1)

-- and a query
pub query_answered : (names : List (List ℕ)) (table : Table) (text : List ℕ) → (a : Result Clause Fault) × IsQueryAnswer names table text a
query_answered names table text = ⊎_elim long short (either (nat_lt 1048576 (length text)))
  where
    long : nat_lt 1048576 (length text) ≡ true → (a : Result Clause Fault) × IsQueryAnswer names table text a
    long h = (Err (Long, 0), too_long_query (ltb-true 1048576 (length text) h) refl)

    short : nat_lt 1048576 (length text) ≡ false → (a : Result Clause Fault) × IsQueryAnswer names table text a
    short h =
        let l = lexed text in
        let tokens = query_tokens names text l.fault l.tokens in
        let v = walk 1000 (table_rules table (known names)) start tokens in (
          query_answer names text l.fault l.tokens v,
          by_tokens l.tokens l.fault v (ltb-false 1048576 (length text) h) l.lexes (verdict_found 1000 table.infixes table.prefixes (known names) tokens) refl,
        )
