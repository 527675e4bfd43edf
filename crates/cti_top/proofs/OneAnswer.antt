-- A text is one program or is refused, for one fault; and so is a query of a program.
use Rattle.std.proofs.Common.{◌≡◌, ℕ, ◌≤◌, List, [], ◌++◌, length, Result, Ok, Err, ◌⊎◌, inl, inr, refl, sym, ap, ◌∙◌, subst}
use Rattle.cti_terms.specs.Listing.{Listing}
use Rattle.cti_terms.specs.declared.derivation.Goal.{Goal}
use Rattle.prolog_terms.specs.Clauses.{Clause}
use Rattle.prolog_reader.specs.Naming.{AreNamesOf, name_texts, text_own, query_own}
use Rattle.prolog_reader.specs.Reading.{Answer, Fault, IsTextAnswer, IsQueryAnswer, too_long, by_clauses}
use Rattle.prolog_reader.specs.Table.{Table}
use Rattle.prolog_reader.proofs.OneAnswer.{text_once, query_once}
use Rattle.prolog_reader.proofs.TextNames.{names_once, names_of}
use Rattle.prolog_reader.proofs.SomeAnswer.{text_answered, query_answered}
use Rattle.prolog_reader.proofs.DistinctLemmas.{AreDistinct, names_distinct, none_distinct}
use Rattle.prolog_reader.proofs.PlaceLemmas.{text_placed, query_placed}
use Rattle.clause_normal.specs.ChoiceNames.{made_texts, program_names}
use Rattle.clause_normal.specs.NormalForm.{Fault as NormalFault, normal_rules, normal_form}
use Rattle.clause_normal.specs.Query.{query_form}
use Rattle.clause_normal.proofs.PlaceLemmas.{normal_placed, query_form_placed}
use Rattle.cti_top.specs.Programs.{ReadsAs, IsProgramOf, IsRefused, not_read, not_normal}
use Rattle.cti_top.specs.Queries.{Known, ReadsQueryAs, IsQueryOf, IsQueryRefused, not_read as query_not_read, not_normal as query_not_normal}
use Rattle.cti_top.specs.Runs.{IsKnown, IsRefusedQuery}
use Rattle.cti_top.specs.Refusal.{read_number, normal_number}

pub ok_is : {X E : Type 0} (x y : X) → ◌≡◌ {A = Result X E} (Ok x) (Ok y) → x ≡ y
ok_is {X = X} {E = E} x y h = ap of h
  where
    of : Result X E → X
    of (Ok z) = z
    of (Err e) = x

pub err_is : {X E : Type 0} (x y : E) → ◌≡◌ {A = Result X E} (Err x) (Err y) → x ≡ y
err_is {X = X} {E = E} x y h = ap of h
  where
    of : Result X E → E
    of (Ok z) = x
    of (Err e) = e

pub apart : {X E : Type 0} (x : X) (e : E) → ◌≡◌ {A = Result X E} (Ok x) (Err e) → ⊥
apart x e h = cc

module _ (bytes : List ℕ) where
  -- what the text answers by the names that it gives
  pub answers_once : (names other : List (List ℕ)) (a b : Answer) → AreNamesOf text_own [] bytes names → AreNamesOf text_own [] bytes other → IsTextAnswer names bytes a → IsTextAnswer other bytes b
      → (names ≡ other) × (a ≡ b)
  answers_once names other a b n m h k =
      let same = names_once text_own [] bytes names other n m in
      (same, text_once names bytes a b h (subst (λ (ns : List (List ℕ)). IsTextAnswer ns bytes b) (sym same) k))

  -- and what its clauses come to
  pub forms_once : (names other : List (List ℕ)) (cs ds : List Clause) (t u : Table) → ReadsAs bytes names cs t → ReadsAs bytes other ds u → (names ≡ other) × (cs ≡ ds) × (t ≡ u)
  forms_once names other cs ds t u r s =
      let same = answers_once names other (Ok (cs, t)) (Ok (ds, u)) r.named s.named r.reads s.reads in
      let pair = ok_is (cs, t) (ds, u) same.1 in
      (same.0, ap (λ (p : List Clause × Table). p.0) pair, ap (λ (p : List Clause × Table). p.1) pair)

  pub program_once : (names other : List (List ℕ)) (p q : Listing) (t u : Table) → IsProgramOf bytes names p t → IsProgramOf bytes other q u → (names ≡ other) × (p ≡ q) × (t ≡ u)
  program_once names other p q t u a b =
      let same = forms_once a.read b.read a.clauses b.clauses t u a.reads b.reads in
      let named = a.named ∙ ap (λ (ns : List (List ℕ)). program_names ns a.clauses) same.0 ∙ ap (program_names b.read) same.1 ∙ sym b.named in
      let formed = sym a.normal ∙ ap (λ (ns : List (List ℕ)). normal_form ns a.clauses) named ∙ ap (normal_form other) same.1 ∙ b.normal in
      (named, ok_is p q formed, same.2)

  pub program_or_refused : (names : List (List ℕ)) (p : Listing) (t : Table) (kind at : ℕ) → IsProgramOf bytes names p t → IsRefused bytes kind at → ⊥
  program_or_refused names p t kind at a (not_read other k named h is) =
      apart (a.clauses, t) (k, at) (answers_once a.read other (Ok (a.clauses, t)) (Err (k, at)) a.reads.named named a.reads.reads h).1
  program_or_refused names p t kind at a (not_normal other cs u k r h is) =
      let same = forms_once a.read other a.clauses cs t u a.reads r in
      apart p (k, at)
      (sym a.normal ∙ ap (λ (ns : List (List ℕ)). normal_form ns a.clauses) a.named ∙ ap (λ (ns : List (List ℕ)). normal_form (program_names ns a.clauses) a.clauses) same.0
      ∙ ap (λ (ds : List Clause). normal_form (program_names other ds) ds) same.1 ∙ h)

  pub refused_once : (kind at kind' at' : ℕ) → IsRefused bytes kind at → IsRefused bytes kind' at' → (kind ≡ kind') × (at ≡ at')
  refused_once kind at kind' at' (not_read names k named h is) (not_read other j named' g is') =
      let same = err_is (k, at) (j, at') (answers_once names other (Err (k, at)) (Err (j, at')) named named' h g).1 in
      (is ∙ ap (λ (f : Fault). read_number f.0) same ∙ sym is', ap (λ (f : Fault). f.1) same)
  refused_once kind at kind' at' (not_read names k named h is) (not_normal other cs t j r g is') =
      absurd (apart (cs, t) (k, at) (answers_once other names (Ok (cs, t)) (Err (k, at)) r.named named r.reads h).1)
  refused_once kind at kind' at' (not_normal other cs t j r g is') (not_read names k named h is) =
      absurd (apart (cs, t) (k, at') (answers_once other names (Ok (cs, t)) (Err (k, at')) r.named named r.reads h).1)
  refused_once kind at kind' at' (not_normal names cs t k r h is) (not_normal other ds u j s g is') =
      let same = forms_once names other cs ds t u r s in
      let fault = err_is (k, at) (j, at') (sym h ∙ ap (λ (ns : List (List ℕ)). normal_form (program_names ns cs) cs) same.0 ∙ ap (λ (es : List Clause). normal_form (program_names other es) es) same.1 ∙ g) in
      (is ∙ ap (λ (f : NormalFault). normal_number f.0) fault ∙ sym is', ap (λ (f : NormalFault). f.1) fault)

module _ (known : Known) (query : List ℕ) where
  query_answers_once : (names other : List (List ℕ)) (a b : Result Clause Fault) → AreNamesOf query_own known.names query names → AreNamesOf query_own known.names query other
      → IsQueryAnswer names known.table query a → IsQueryAnswer other known.table query b → (names ≡ other) × (a ≡ b)
  query_answers_once names other a b n m h k =
      let same = names_once query_own known.names query names other n m in
      (same, query_once names known.table query a b h (subst (λ (ns : List (List ℕ)). IsQueryAnswer ns known.table query b) (sym same) k))

  clauses_once : (names other : List (List ℕ)) (c d : Clause) → ReadsQueryAs known query names c → ReadsQueryAs known query other d
      → (names ≡ other) × (query_form names known.program c ≡ query_form other known.program d)
  clauses_once names other c d r s =
      let same = query_answers_once names other (Ok c) (Ok d) r.named s.named r.reads s.reads in
      (same.0, ap (λ (ns : List (List ℕ)). query_form ns known.program c) same.0 ∙ ap (query_form other known.program) (ok_is c d same.1))

  pub goal_once : (names other : List (List ℕ)) (p q : Listing) (g h : Goal) → IsQueryOf known query names p g → IsQueryOf known query other q h → (names ≡ other) × (p ≡ q) × (g ≡ h)
  goal_once names other p q g h a b =
      let same = clauses_once names other a.clause b.clause a.reads b.reads in
      let pair = ok_is (p, g) (q, h) (sym a.normal ∙ same.1 ∙ b.normal) in
      (same.0, ap (λ (x : Listing × Goal). x.0) pair, ap (λ (x : Listing × Goal). x.1) pair)

  pub goal_or_refused : (names : List (List ℕ)) (p : Listing) (g : Goal) (kind at : ℕ) → IsQueryOf known query names p g → IsQueryRefused known query kind at → ⊥
  goal_or_refused names p g kind at a (query_not_read other k named h is) =
      apart a.clause (k, at) (query_answers_once names other (Ok a.clause) (Err (k, at)) a.reads.named named a.reads.reads h).1
  goal_or_refused names p g kind at a (query_not_normal other c k r h is) =
      apart (p, g) (k, at) (sym a.normal ∙ (clauses_once names other a.clause c a.reads r).1 ∙ h)

  pub query_refused_once : (kind at kind' at' : ℕ) → IsQueryRefused known query kind at → IsQueryRefused known query kind' at' → (kind ≡ kind') × (at ≡ at')
  query_refused_once kind at kind' at' (query_not_read names k named h is) (query_not_read other j named' g is') =
      let same = err_is (k, at) (j, at') (query_answers_once names other (Err (k, at)) (Err (j, at')) named named' h g).1 in
      (is ∙ ap (λ (f : Fault). read_number f.0) same ∙ sym is', ap (λ (f : Fault). f.1) same)
  query_refused_once kind at kind' at' (query_not_read names k named h is) (query_not_normal other c j r g is') =
      absurd (apart c (k, at) (query_answers_once other names (Ok c) (Err (k, at)) r.named named r.reads h).1)
  query_refused_once kind at kind' at' (query_not_normal other c j r g is') (query_not_read names k named h is) =
      absurd (apart c (k, at') (query_answers_once other names (Ok c) (Err (k, at')) r.named named r.reads h).1)
  query_refused_once kind at kind' at' (query_not_normal names c k r h is) (query_not_normal other d j s g is') =
      let fault = err_is (k, at) (j, at') (sym h ∙ (clauses_once names other c d r s).1 ∙ g) in
      (is ∙ ap (λ (f : NormalFault). normal_number f.0) fault ∙ sym is', ap (λ (f : NormalFault). f.1) fault)

-- a text that is a program is short
pub is_short : (bytes : List ℕ) (known : Known) → IsKnown bytes known → length bytes ≤ 1048576
is_short bytes known is = of_answer is.reads.reads
  where
    of_answer : {names : List (List ℕ)} {cs : List Clause} {t : Table} → IsTextAnswer names bytes (Ok (cs, t)) → length bytes ≤ 1048576
    of_answer (too_long h e) = absurd (apart _ _ e)
    of_answer (by_clauses ts f short lexes answers) = short

-- a text is one known program
pub known_once : (bytes : List ℕ) (known other : Known) → IsKnown bytes known → IsKnown bytes other → known ≡ other
known_once bytes known other a b =
    let same = program_once bytes known.names other.names known.program other.program known.table other.table a b in
    λ i. record { names = same.0 i; program = same.1 i; table = same.2 i }

-- and not refused
pub none_refused : (bytes : List ℕ) (known : Known) → IsKnown bytes known → (kind at : ℕ) → IsRefused bytes kind at → ⊥
none_refused bytes known is kind at r = program_or_refused bytes known.names known.program known.table kind at is r

pub no_query_refused : (bytes query : List ℕ) (known : Known) (names : List (List ℕ)) (p : Listing) (g : Goal) → IsKnown bytes known → IsQueryOf known query names p g
    → (kind at : ℕ) → IsRefusedQuery bytes query kind at → ⊥
no_query_refused bytes query known names p g is asked kind at r =
    goal_or_refused known query names p g kind at asked (subst (λ (k : Known). IsQueryRefused k query kind at) (known_once bytes r.known known r.is is) r.refused)

-- each text is a program or refused
pub some_program : (bytes : List ℕ) → ((known : Known) × IsKnown bytes known) ⊎ ((kind : ℕ) × (at : ℕ) × IsRefused bytes kind at)
some_program bytes = let n = names_of text_own [] bytes in let a = text_answered n.0 bytes in by_answer n.0 n.1 a.0 a.1
  where
    by_form : (read : List (List ℕ)) (cs : List Clause) (t : Table) → ReadsAs bytes read cs t → (r : Result Listing NormalFault) → normal_form (program_names read cs) cs ≡ r
        → ((known : Known) × IsKnown bytes known) ⊎ ((kind : ℕ) × (at : ℕ) × IsRefused bytes kind at)
    by_form read cs t reads (Ok p) e =
        inl (record { names = program_names read cs; program = p; table = t }, record { read = read; clauses = cs; reads = reads; named = refl; normal = e })
    by_form read cs t reads (Err f) e = inr (normal_number f.0, f.1, not_normal read cs t f.0 reads e refl)

    by_answer : (read : List (List ℕ)) → AreNamesOf text_own [] bytes read → (a : Answer) → IsTextAnswer read bytes a
        → ((known : Known) × IsKnown bytes known) ⊎ ((kind : ℕ) × (at : ℕ) × IsRefused bytes kind at)
    by_answer read named (Ok r) is = by_form read r.0 r.1 (record { named = named; reads = is }) (normal_form (program_names read r.0) r.0) refl
    by_answer read named (Err f) is = inr (read_number f.0, f.1, not_read read f.0 named is refl)

-- and each query of a program is a goal or refused
pub some_goal : (known : Known) (query : List ℕ)
    → ((names : List (List ℕ)) × (p : Listing) × (g : Goal) × IsQueryOf known query names p g) ⊎ ((kind : ℕ) × (at : ℕ) × IsQueryRefused known query kind at)
some_goal known query = let n = names_of query_own known.names query in let a = query_answered n.0 known.table query in by_answer n.0 n.1 a.0 a.1
  where
    by_form : (names : List (List ℕ)) (c : Clause) → ReadsQueryAs known query names c → (r : Result (Listing × Goal) NormalFault) → query_form names known.program c ≡ r
        → ((names : List (List ℕ)) × (p : Listing) × (g : Goal) × IsQueryOf known query names p g) ⊎ ((kind : ℕ) × (at : ℕ) × IsQueryRefused known query kind at)
    by_form names c reads (Ok r) e = inl (names, r.0, r.1, record { clause = c; reads = reads; normal = e })
    by_form names c reads (Err f) e = inr (normal_number f.0, f.1, query_not_normal names c f.0 reads e refl)

    by_answer : (names : List (List ℕ)) → AreNamesOf query_own known.names query names → (a : Result Clause Fault) → IsQueryAnswer names known.table query a
        → ((names : List (List ℕ)) × (p : Listing) × (g : Goal) × IsQueryOf known query names p g) ⊎ ((kind : ℕ) × (at : ℕ) × IsQueryRefused known query kind at)
    by_answer names named (Ok c) is = by_form names c (record { named = named; reads = is }) (query_form names known.program c) refl
    by_answer names named (Err f) is = inr (read_number f.0, f.1, query_not_read names f.0 named is refl)

-- a refusal's place is one of the text
pub refused_placed : (bytes : List ℕ) (kind at : ℕ) → IsRefused bytes kind at → at ≤ length bytes
refused_placed bytes kind at (not_read names k named h is) = text_placed names bytes (Err (k, at)) h
refused_placed bytes kind at (not_normal read cs t k r h is) = normal_placed (length bytes) (program_names read cs) cs (k, at) (text_placed read bytes (Ok (cs, t)) r.reads) h

pub query_refused_placed : (known : Known) (query : List ℕ) (kind at : ℕ) → IsQueryRefused known query kind at → at ≤ length query
query_refused_placed known query kind at (query_not_read names k named h is) = query_placed names known.table query (Err (k, at)) h
query_refused_placed known query kind at (query_not_normal names c k r h is) = query_form_placed (length query) names known.program c (k, at) (query_placed names known.table query (Ok c) r.reads) h

-- no two names of a program have the same text
pub distinct_names : (bytes : List ℕ) (known : Known) → IsKnown bytes known → AreDistinct known.names
distinct_names bytes known is =
    subst AreDistinct (sym is.named)
    (names_distinct is.read (made_texts (normal_rules is.read [] 1 is.clauses))
    (subst AreDistinct (sym is.reads.named.are) (names_distinct [] (text_own ++ name_texts bytes is.reads.named.tokens) none_distinct)))
