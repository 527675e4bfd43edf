-- A text has one answer by the same names, and so has a query.
use Rattle.std.proofs.Common.{◌≡◌, ℕ, List, [], ◌∷◌, length, drop, Option, None, Result, Ok, Err, IfOk, IfErr, refl, sym, ap, ◌∙◌, subst, arith}
use Rattle.prolog_tokens.specs.Cursor.{Cursor}
use Rattle.prolog_tokens.specs.Stream.{Lexes, ends, fails, goes_on}
use Rattle.prolog_tokens.specs.declared.token.Token.{Token as TextToken}
use Rattle.prolog_tokens.specs.declared.fault.LexFault.{LexFault}
use Rattle.prolog_tokens.proofs.StreamLemmas.{after_token, at_end, at_fault}
use Rattle.prolog_grammar.specs.Token.{Token}
use Rattle.prolog_grammar.specs.Fault.{ReadFault as ClauseFault, unexpected, Verdict}
use Rattle.prolog_grammar.specs.Placed.{Part, part_tree}
use Rattle.prolog_grammar.specs.Machine.{start}
use Rattle.prolog_grammar.proofs.OneVerdict.{one_verdict}
use Rattle.prolog_reader.specs.declared.fault.ReadKind.TheVariants.{BadOp}
use Rattle.prolog_reader.specs.declared.fault.ReadFault.{ReadFault}
use Rattle.prolog_reader.specs.declared.fault.ReadFault.TheVariants.{Fault as Refused, Memory}
use Rattle.prolog_reader.specs.declared.text.ReadText.{ReadText}
use Rattle.prolog_terms.specs.declared.clause.ReadClause.{ReadClause}
use Rattle.prolog_terms.specs.Clauses.{Clause}
use Rattle.prolog_terms.specs.Terms.{clause_of}
use Rattle.prolog_operators.specs.Names.{Extends}
use Rattle.prolog_operators.specs.Meanings.{table_of}
use Rattle.prolog_operators.specs.Table.{Table, standard}
use Rattle.term_parser.specs.Views.{table_rules}
use Rattle.prolog_reader.specs.Words.{known, words_of}
use Rattle.prolog_reader.specs.Directive.{Effect, sets, refuses, effect}
use Rattle.prolog_reader.specs.Reading.{Fault, Answer, before_rest, clause_at, clause_fault, with_clause, IsLeft, clause_tokens, ReadsBy, Answers, all_read, stops, bad_operator, one_more, IsTextAnswer, too_long, by_clauses, query_tokens, query_answer, IsQueryAnswer, too_long_query, by_tokens}
use Rattle.prolog_reader.specs.Answers.{AnswersText, AnswersQuery, RefusesText, RefusesQuery, SaysText, SaysQuery}
use Rattle.prolog_reader.proofs.RunLemmas.{walk_none}

-- a text has one list of tokens
pub lexes_once : {c : Cursor} {ts ts' : List TextToken} {e e' : Option LexFault} → Lexes c ts e → Lexes c ts' e' → (ts ≡ ts') × (e ≡ e')
lexes_once (ends h) other = let r = at_end other h in (sym r.0, sym r.1)
lexes_once (fails {e = f} h) other = let r = at_fault other f h in (sym r.0, sym r.1)
lexes_once (goes_on {t = t} h later) other =
    let r = after_token other t h in
    let rest = lexes_once later r.later in
    (ap (λ (xs : List TextToken). t ∷ xs) rest.0 ∙ sym r.first, rest.1)

abbrev Verdicts : Type 0
Verdicts = Verdict Part

ok_same : (r s : Part × List Token) → ◌≡◌ {A = Verdicts} (Ok r) (Ok s) → r ≡ s
ok_same r s h = cc

err_same : (f g : ClauseFault) → ◌≡◌ {A = Verdicts} (Err f) (Err g) → f ≡ g
err_same f g h = cc

ok_err : (r : Part × List Token) (f : ClauseFault) → ◌≡◌ {A = Verdicts} (Ok r) (Err f) → ⊥
ok_err r f h = cc

sets_same : (t u : Table) → ◌≡◌ {A = Effect} (sets t) (sets u) → t ≡ u
sets_same t u h = ap of h
  where
    of : Effect → Table
    of (sets x) = x
    of refuses = t

sets_refuses : (t : Table) → ◌≡◌ {A = Effect} (sets t) refuses → ⊥
sets_refuses t h = cc

module _ (names : List (List ℕ)) (text : List ℕ) (fault : Option LexFault) where
  -- the same tokens have one verdict
  verdict_once : (table : Table) (us : List Token) (v w : Verdict Part) → ReadsBy names text fault table us v → ReadsBy names text fault table us w → v ≡ w
  verdict_once table us v w h g = sym (one_verdict 1000 table.infixes table.prefixes (known names) us v h) ∙ one_verdict 1000 table.infixes table.prefixes (known names) us w g

  -- nothing is not a clause
  none_read : (table : Table) (r : Part × List Token) → ReadsBy names text fault table [] (Ok r) → ⊥
  none_read table r h =
      ok_err r (unexpected []) (sym (one_verdict 1000 table.infixes table.prefixes (known names) [] (Ok r) h) ∙ walk_none (table_rules table (known names)) start)

  none_left : IsLeft [] fault → fault ≡ None → ⊥
  none_left h e = subst (IsLeft []) e h

  abbrev us_of : List TextToken → List Token
  us_of ts = clause_tokens names text fault ts

  answers_once : {table : Table} {ts : List TextToken} {a b : Answer} → Answers names text fault table ts a → Answers names text fault table ts b → a ≡ b
  answers_once (all_read e) (all_read e') = refl
  answers_once (all_read e) (stops f left v is) = absurd (none_left left e)
  answers_once {table = table} (all_read e) (bad_operator part rest v does is) = absurd (none_read table (part, rest) v)
  answers_once {table = table} (all_read e) (one_more table' part rest others v does more is) = absurd (none_read table (part, rest) v)
  answers_once (stops f left v is) (all_read e) = absurd (none_left left e)
  answers_once {table = table} (bad_operator part rest v does is) (all_read e) = absurd (none_read table (part, rest) v)
  answers_once {table = table} (one_more table' part rest others v does more is) (all_read e) = absurd (none_read table (part, rest) v)
  answers_once {table = table} {ts = ts} (stops f left v is) (stops g left' w is') =
      is ∙ ap (λ (x : ClauseFault). Err (clause_fault (length text) fault ts (us_of ts) x)) (err_same f g (verdict_once table (us_of ts) (Err f) (Err g) v w)) ∙ sym is'
  answers_once {table = table} {ts = ts} (stops f left v is) (bad_operator part rest w does is') = absurd (ok_err (part, rest) f (verdict_once table (us_of ts) (Ok (part, rest)) (Err f) w v))
  answers_once {table = table} {ts = ts} (stops f left v is) (one_more table' part rest others w does more is') = absurd (ok_err (part, rest) f (verdict_once table (us_of ts) (Ok (part, rest)) (Err f) w v))
  answers_once {table = table} {ts = ts} (bad_operator part rest v does is) (stops f left w is') = absurd (ok_err (part, rest) f (verdict_once table (us_of ts) (Ok (part, rest)) (Err f) v w))
  answers_once {table = table} {ts = ts} (one_more table' part rest others v does more is) (stops f left w is') = absurd (ok_err (part, rest) f (verdict_once table (us_of ts) (Ok (part, rest)) (Err f) v w))
  answers_once {table = table} {ts = ts} (bad_operator part rest v does is) (bad_operator part' rest' w does' is') =
      let same = ok_same (part, rest) (part', rest') (verdict_once table (us_of ts) (Ok (part, rest)) (Ok (part', rest')) v w) in
      is ∙ ap (λ (r : Part × List Token). Err (BadOp, r.0.at)) same ∙ sym is'
  answers_once {table = table} {ts = ts} (bad_operator part rest v does is) (one_more table' part' rest' others w does' more is') =
      let same = ok_same (part, rest) (part', rest') (verdict_once table (us_of ts) (Ok (part, rest)) (Ok (part', rest')) v w) in
      absurd (sets_refuses table' (sym does' ∙ ap (λ (r : Part × List Token). effect (words_of names) table (part_tree r.0)) (sym same) ∙ does))
  answers_once {table = table} {ts = ts} (one_more table' part rest others v does more is) (bad_operator part' rest' w does' is') =
      let same = ok_same (part, rest) (part', rest') (verdict_once table (us_of ts) (Ok (part, rest)) (Ok (part', rest')) v w) in
      absurd (sets_refuses table' (sym does ∙ ap (λ (r : Part × List Token). effect (words_of names) table (part_tree r.0)) same ∙ does'))
  answers_once {table = table} {ts = ts} (one_more table' part rest others v does more is) (one_more table'' part' rest' others' w does' more' is') =
      let same = ok_same (part, rest) (part', rest') (verdict_once table (us_of ts) (Ok (part, rest)) (Ok (part', rest')) v w) in
      let tables = sets_same table' table'' (sym does ∙ ap (λ (r : Part × List Token). effect (words_of names) table (part_tree r.0)) same ∙ does') in
      let behind = subst (λ (x : Table). Answers names text fault x (drop (before_rest (us_of ts) rest) ts) others') (sym tables)
      (subst (λ (r : Part × List Token). Answers names text fault table'' (drop (before_rest (us_of ts) r.1) ts) others') (sym same) more') in
      is ∙ ap (λ (x : Answer). with_clause (clause_at text ts (before_rest (us_of ts) rest) part) x) (answers_once more behind)
      ∙ ap (λ (r : Part × List Token). with_clause (clause_at text ts (before_rest (us_of ts) r.1) r.0) others') same ∙ sym is'

-- a text has one answer
pub text_once : (names : List (List ℕ)) (text : List ℕ) (a b : Answer) → IsTextAnswer names text a → IsTextAnswer names text b → a ≡ b
text_once names text a b (too_long h is) (too_long h' is') = is ∙ sym is'
text_once names text a b (too_long h is) (by_clauses ts e short lexes answers) = absurd (omega (arith, h, short))
text_once names text a b (by_clauses ts e short lexes answers) (too_long h is) = absurd (omega (arith, h, short))
text_once names text a b (by_clauses ts e short lexes answers) (by_clauses ts' e' short' lexes' answers') =
    let same = lexes_once lexes lexes' in
    answers_once names text e answers (subst (λ (x : Option LexFault). Answers names text x (standard names) ts b) (sym same.1)
    (subst (λ (xs : List TextToken). Answers names text e' (standard names) xs b) (sym same.0) answers'))

-- and so has a query
pub query_once : (names : List (List ℕ)) (table : Table) (text : List ℕ) (a b : Result Clause Fault) → IsQueryAnswer names table text a → IsQueryAnswer names table text b → a ≡ b
query_once names table text a b (too_long_query h is) (too_long_query h' is') = is ∙ sym is'
query_once names table text a b (too_long_query h is) (by_tokens ts e v short lexes reads is') = absurd (omega (arith, h, short))
query_once names table text a b (by_tokens ts e v short lexes reads is) (too_long_query h is') = absurd (omega (arith, h, short))
query_once names table text a b (by_tokens ts e v short lexes reads is) (by_tokens ts' e' v' short' lexes' reads' is') =
    let same = lexes_once lexes lexes' in
    let moved = subst (λ (x : Option LexFault). ReadsBy names text x table (query_tokens names text x ts) v') (sym same.1)
    (subst (λ (xs : List TextToken). ReadsBy names text e' table (query_tokens names text e' xs) v') (sym same.0) reads') in
    is ∙ ap (query_answer names text e ts) (verdict_once names text e table (query_tokens names text e ts) v v' reads moved)
    ∙ ap (λ (x : Option LexFault). query_answer names text x ts v') same.1 ∙ ap (λ (xs : List TextToken). query_answer names text e' xs v') same.0 ∙ sym is'

-- the result of a call is the one answer
pub only_text : (names : List (List ℕ)) (text : List ℕ) (r : Result ReadText ReadFault)
    → IfOk r (λ read. AnswersText names text (Ok (read.clauses, table_of read.ops))) → IfErr r (λ f. RefusesText names text f)
    → (later : List (List ℕ)) (answer : Answer) → Extends names later → IsTextAnswer later text answer → SaysText r answer
only_text names text (Ok read) found refused later answer ext is = text_once later text answer _ is (found later ext)
only_text names text (Err (Refused kind at)) found refused later answer ext is = text_once later text answer _ is (refused later ext)
only_text names text (Err Memory) found refused later answer ext is = tt

pub only_query : (names : List (List ℕ)) (table : Table) (text : List ℕ) (r : Result ReadClause ReadFault)
    → IfOk r (λ clause. AnswersQuery names table text (Ok (clause_of clause))) → IfErr r (λ f. RefusesQuery names table text f)
    → (later : List (List ℕ)) (answer : Result Clause Fault) → Extends names later → IsQueryAnswer later table text answer → SaysQuery r answer
only_query names table text (Ok clause) found refused later answer ext is = query_once later table text answer _ is (found later ext)
only_query names table text (Err (Refused kind at)) found refused later answer ext is = query_once later table text answer _ is (refused later ext)
only_query names table text (Err Memory) found refused later answer ext is = tt
