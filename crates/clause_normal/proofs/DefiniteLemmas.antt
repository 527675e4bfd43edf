-- The program of definite clauses is their normal form.
use Rattle.std.proofs.Common.{◌≡◌, ℕ, ◌+◌, ◌≤◌, ◌&&◌, ◌||◌, ◌==◌, Bool, true, false, zero, suc, nat_le, nat_lt, take, drop, List, [], ◌∷◌, ◌++◌, length, Option, Some, None, Result, Ok, if◌then◌else◌, refl, ap, sym, ◌∙◌, arith, append-nil, append_assoc, eqb-true}
use Rattle.std.specs.Prelude.{codes}
use Rattle.std.specs.List.{AllByRecursion}
use Rattle.std.specs.Cmp.Lexicographic.{same_text}
use Rattle.std.proofs.lemmas.Bool.{and_parts, le-ltb, leb-false}
use Rattle.std.proofs.lemmas.List.{length-append}
use Rattle.cti_terms.specs.Tree.{Tree as Term}
use Rattle.prolog_grammar.specs.Placed.{Tree, tree, Shape, Var, Int, Fun, Trees, no_trees, more_trees}
use Rattle.prolog_reader.specs.Names.{name_text}
use Rattle.prolog_terms.specs.Clauses.{Clause, arity, place, list_of}
use Rattle.clause_normal.specs.declared.fault.NormKind.TheVariants as kind
use Rattle.clause_normal.specs.declared.words.Connective.{Connective}
use Rattle.clause_normal.specs.declared.words.Connective.TheVariants as connective
use Rattle.clause_normal.specs.declared.words.Neck.{Neck}
use Rattle.clause_normal.specs.declared.words.Neck.TheVariants as neck
use Rattle.clause_normal.specs.Words.{same, is_impure, is_choice_name, connective_of, neck_of}
use Rattle.clause_variables.specs.Terms.{plain_list, occurrences}
use Rattle.clause_normal.specs.Bodies.{Goal, Goals, call, choice, bad, no_goals, more_goals, joined, goals_row, named_goal, atom_goal, named_body, body_of, shape_body, argument_bodies}
use Rattle.clause_normal.specs.Rules.{named, Call, Rule, choices, inner, calls, below, rules, after}
use Rattle.clause_normal.specs.NormalForm.{Fault, Made, first_of, goals_fault, clause, clause_fault, head_fault, head_call, variables_fault, made_or_fault, with_form, named_form, form_of, and_next, normal_rules, normal_form}
use Rattle.clause_normal.specs.NormalForm.{program_of as program_or_fault}
use Rattle.clause_normal.specs.Query.{named_goals, query_goals, argument_goals, bad_goal, query_fault, query_calls}
use Rattle.clause_normal.specs.Definite.{Parted, no_clause, fact, rule, named_parts, parted, parts_fault, parted_fault, added_fault, AreDefinite, parts_rule, rules_of, program_of}
use Rattle.clause_normal.proofs.KindLemmas.{length-plain}
use Rattle.clause_variables.proofs.ListLemmas.{all_append}

-- two faults are none
pub both_none : (f g : Option Fault) → first_of f g ≡ None → (f ≡ None) × (g ≡ None)
both_none None g h = (refl, h)
both_none (Some x) g h = absurd (let e = h in cc)

-- ---- goals of a query

-- a goal that is no disjunction
abbrev pub IsSingle : Goal → Type 0
IsSingle (call f ts) = Unit {0}
IsSingle (choice args bs) = ⊥
IsSingle (bad k at) = Unit {0}

named_single : (text : List ℕ) (f : ℕ) (args : List Term) (at : ℕ) → IsSingle (named_goal text f args at)
named_single text f args at = by_tests (is_impure text (length args) || is_choice_name text) (nat_lt 12 (length args))
  where
    by_tests : (b c : Bool) → IsSingle (if b then bad kind.NotPure at else if c then bad kind.Arity at else call f args)
    by_tests true c = tt
    by_tests false true = tt
    by_tests false false = tt

module _ (names : List (List ℕ)) where
  atom_single : (t : Tree) → IsSingle (atom_goal names t)
  atom_single (tree at (Var x)) = tt
  atom_single (tree at (Int n)) = tt
  atom_single (tree at (Fun f ts)) = named_single (name_text names f) f (plain_list ts) at

  abbrev pub AreSingle : List Goal → Type 0
  AreSingle gs = AllByRecursion IsSingle gs

  abbrev EachSingle : List (List Goal) → Type 0
  EachSingle gss = AllByRecursion AreSingle gss

  named_goals_single : (t : Tree) (k : Connective) (gss : List (List Goal)) → EachSingle gss → AreSingle (named_goals names t k gss)
  named_goals_single t connective.And (gs ∷ hs ∷ []) h = all_append IsSingle gs hs h.0 h.1.0
  named_goals_single t connective.Truth gss h = tt
  named_goals_single t k gss h = (atom_single t, tt)

  mutual
    -- no goal of a query is a disjunction
    pub query_single : (t : Tree) → AreSingle (query_goals names t)
    query_single (tree at s) = shape_single at s

    shape_single : (at : ℕ) (s : Shape) → AreSingle (query_goals names (tree at s))
    shape_single at (Var x) = (tt, tt)
    shape_single at (Int n) = (tt, tt)
    shape_single at (Fun f ts) = named_goals_single (tree at (Fun f ts)) (connective_of (name_text names f) (arity ts)) (argument_goals names ts) (arguments_single ts)

    arguments_single : (ts : Trees) → EachSingle (argument_goals names ts)
    arguments_single no_trees = tt
    arguments_single (more_trees t ts) = (query_single t, arguments_single ts)

-- ---- such goals as a body

calls_row : (m : ℕ) (gs : List Goal) → AllByRecursion IsSingle gs → calls m (goals_row gs) ≡ query_calls gs
calls_row m [] h = refl
calls_row m (call f ts ∷ gs) h = ap (λ (cs : List Call). record { functor = named f; args = ts } ∷ cs) (calls_row (m + 0) gs h.1)
calls_row m (choice args bs ∷ gs) h = absurd h.0
calls_row m (bad k at ∷ gs) h = calls_row (m + 0) gs h.1

below_row : (m n : ℕ) (gs : List Goal) → AllByRecursion IsSingle gs → below m n (goals_row gs) ≡ []
below_row m n [] h = refl
below_row m n (call f ts ∷ gs) h = below_row (m + 0) (n + 0) gs h.1
below_row m n (choice args bs ∷ gs) h = absurd h.0
below_row m n (bad k at ∷ gs) h = below_row (m + 0) (n + 0) gs h.1

none_row : (gs : List Goal) → AllByRecursion IsSingle gs → choices (goals_row gs) + inner (goals_row gs) ≡ 0
none_row [] h = refl
none_row (call f ts ∷ gs) h = omega (arith, none_row gs h.1)
none_row (choice args bs ∷ gs) h = absurd h.0
none_row (bad k at ∷ gs) h = omega (arith, none_row gs h.1)

fault_row : (gs : List Goal) → AllByRecursion IsSingle gs → goals_fault (goals_row gs) ≡ query_fault gs
fault_row [] h = refl
fault_row (call f ts ∷ gs) h = fault_row gs h.1
fault_row (choice args bs ∷ gs) h = absurd h.0
fault_row (bad k at ∷ gs) h = refl

rules_row : (n : ℕ) (head : Call) (gs : List Goal) → AllByRecursion IsSingle gs → rules n head (goals_row gs) ≡ record { head = head; body = query_calls gs } ∷ []
rules_row n head gs h =
    let body = calls_row n gs h in
    let rest = below_row n (n + choices (goals_row gs)) gs h in
    λ i. record { head = head; body = body i } ∷ rest i

-- ---- the goals of a body without a fault are those of a query

joined_row : (gs hs : List Goal) → joined (goals_row gs) (goals_row hs) ≡ goals_row (gs ++ hs)
joined_row [] hs = refl
joined_row (g ∷ gs) hs = ap (more_goals g) (joined_row gs hs)

fault_parts : (gs hs : List Goal) → query_fault (gs ++ hs) ≡ None → (query_fault gs ≡ None) × (query_fault hs ≡ None)
fault_parts [] hs h = (refl, h)
fault_parts (g ∷ gs) hs h =
    let p = both_none (bad_goal g) (query_fault (gs ++ hs)) h in
    let q = fault_parts gs hs p.1 in
    (ap (λ (f : Option Fault). first_of f (query_fault gs)) p.0 ∙ q.0, q.1)

-- the name of a disjunction is impure
or_test : (a b c : Bool) → (if a then connective.And else if b then connective.Or else if c then connective.Truth else connective.Other) ≡ connective.Or → b ≡ true
or_test true b c h = absurd (let e = h in cc)
or_test false true c h = refl
or_test false false true h = absurd (let e = h in cc)
or_test false false false h = absurd (let e = h in cc)

semicolon_impure : is_impure (codes ";") 2 ≡ true
unfolding is_impure
semicolon_impure = refl

or_impure : (text : List ℕ) (n : ℕ) → connective_of text n ≡ connective.Or → is_impure text n ≡ true
unfolding connective_of
or_impure text n h =
    let parts = and_parts (same text (codes ";")) (n == 2) (or_test (same text (codes ",") && (n == 2)) (same text (codes ";") && (n == 2)) (same text (codes "true") && (n == 0)) h) in
    let text_is : text ≡ codes ";" = same_text text (codes ";") (sym parts.0) in
    (λ i. is_impure (text_is i) (eqb-true n 2 parts.1 i)) ∙ semicolon_impure

module _ (names : List (List ℕ)) where
  or_fault : (at f : ℕ) (ts : Trees) → connective_of (name_text names f) (arity ts) ≡ connective.Or → query_fault (atom_goal names (tree at (Fun f ts)) ∷ []) ≡ None → ⊥
  or_fault at f ts e h =
      let text = name_text names f in
      let impure : is_impure text (length (plain_list ts)) ≡ true = ap (is_impure text) (length-plain ts) ∙ or_impure text (arity ts) e in
      let g = rw impure at h in cc

  mutual
    pub body_row : (t : Tree) → query_fault (query_goals names t) ≡ None → (all : List ℕ) → (body_of names t).goals all ≡ goals_row (query_goals names t)
    body_row (tree at s) h all = shape_row at s h all

    shape_row : (at : ℕ) (s : Shape) → query_fault (query_goals names (tree at s)) ≡ None → (all : List ℕ) → (shape_body names at s).goals all ≡ goals_row (query_goals names (tree at s))
    shape_row at (Var x) h all = refl
    shape_row at (Int n) h all = refl
    shape_row at (Fun f ts) h all = named_row at f (connective_of (name_text names f) (arity ts)) ts refl h all

    named_row : (at f : ℕ) (k : Connective) (ts : Trees) → connective_of (name_text names f) (arity ts) ≡ k → query_fault (named_goals names (tree at (Fun f ts)) k (argument_goals names ts)) ≡ None → (all : List ℕ)
        → (named_body names (tree at (Fun f ts)) at k (argument_bodies names ts)).goals all ≡ goals_row (named_goals names (tree at (Fun f ts)) k (argument_goals names ts))
    named_row at f connective.And (more_trees t (more_trees u no_trees)) e h all =
        let gs = query_goals names t in
        let hs = query_goals names u in
        let p = fault_parts gs hs h in
        let left = body_row t p.0 all in
        let right = body_row u p.1 all in
        (λ i. joined (left i) (right i)) ∙ joined_row gs hs
    named_row at f connective.Or (more_trees t (more_trees u no_trees)) e h all = absurd (or_fault at f (more_trees t (more_trees u no_trees)) e h)
    named_row at f k ts e h all = refl

  -- ---- clauses

  module _ (made : List Rule) (n : ℕ) (c : Clause) where
    fact_made : (t : Tree) → parts_fault names c.term (fact t) ≡ None → with_form names made n c (clause t no_goals) ≡ made_or_fault None (place c.term) (made ++ parts_rule names (fact t)) n
    fact_made t h =
        let next : n + 0 ≡ n = omega arith in
        λ i. made_or_fault (h i) (place c.term) (made ++ parts_rule names (fact t)) (next i)

    rule_made : (u b : Tree) (all : List ℕ) → parts_fault names c.term (rule u b) ≡ None
        → with_form names made n c (clause u ((body_of names b).goals all)) ≡ made_or_fault None (place c.term) (made ++ parts_rule names (rule u b)) n
    rule_made u b all h =
        let gs = query_goals names b in
        let many = variables_fault (place c.term) (occurrences c.term) in
        let single = query_single names b in
        let body = both_none (query_fault gs) many (both_none (head_fault names u) (first_of (query_fault gs) many) h).1 in
        let fault : clause_fault names c u (goals_row gs) ≡ None = ap (λ (f : Option Fault). first_of (head_fault names u) (first_of f many)) (fault_row gs single) ∙ h in
        let one = rules_row n (head_call u) gs single in
        let next : after n (goals_row gs) ≡ n = omega (arith, none_row gs single) in
        ap (λ (hs : Goals). with_form names made n c (clause u hs)) (body_row b body.0 all)
        ∙ (λ i. made_or_fault (fault i) (place c.term) (made ++ one i) (next i))

    named_made : (t : Tree) (k : Neck) (ts : List Tree) → parts_fault names c.term (named_parts t k ts) ≡ None
        → with_form names made n c (named_form names t k ts) ≡ made_or_fault None (place c.term) (made ++ parts_rule names (named_parts t k ts)) n
    named_made t neck.Directive (d ∷ []) h = absurd (let e = h in cc)
    named_made t neck.Query ts h = absurd (let e = h in cc)
    named_made t neck.Implies (u ∷ b ∷ []) h = rule_made u b (occurrences u ++ occurrences b) h
    named_made t neck.Grammar ts h = absurd (let e = h in cc)
    named_made t k ts h = fact_made t h

    term_made : (t : Tree) → parts_fault names c.term (parted names t) ≡ None → with_form names made n c (form_of names t) ≡ made_or_fault None (place c.term) (made ++ parts_rule names (parted names t)) n
    term_made (tree at (Var x)) h = fact_made (tree at (Var x)) h
    term_made (tree at (Int i)) h = fact_made (tree at (Int i)) h
    term_made (tree at (Fun f ts)) h = named_made (tree at (Fun f ts)) (neck_of (name_text names f) (arity ts)) (list_of ts) h

  -- a clause without a fault is one
  one_rule : (t : Tree) (p : Parted) → parts_fault names t p ≡ None → length (parts_rule names p) ≡ 1
  one_rule t (no_clause k) h = absurd (let e = h in cc)
  one_rule t (fact u) h = refl
  one_rule t (rule u b) h = refl

  few_made : (at : ℕ) (made : List Rule) (n : ℕ) → length made ≤ 16384 → made_or_fault None at made n ≡ Ok (made, n)
  few_made at made n h = rw (le-ltb 16384 (length made) h) refl

  pub definite_rules : (made : List Rule) (n : ℕ) (cs : List Clause) → AllByRecursion (λ (c : Clause). parted_fault names c ≡ None) cs → length made + length cs ≤ 16384
      → normal_rules names made n cs ≡ Ok (made ++ rules_of names cs)
  definite_rules made n [] h few = ap (λ (rs : List Rule). Ok rs) (sym (append-nil made))
  definite_rules made n (c ∷ cs) h few =
      let rs = parts_rule names (parted names c.term) in
      let one : length (made ++ rs) ≡ length made + 1 = omega (arith, length-append made rs, one_rule c.term (parted names c.term) h.0) in
      let next : Made → Result (List Rule) Fault = λ m. and_next m (λ made' n'. normal_rules names made' n' cs) in
      ap next (term_made made n c c.term h.0 ∙ few_made (place c.term) (made ++ rs) n (omega (arith, one, few)))
      ∙ definite_rules (made ++ rs) n cs h.1 (omega (arith, one, few))
      ∙ ap (λ (rs : List Rule). Ok rs) (append_assoc made rs (rules_of names cs))

  pub definite_normal : (cs : List Clause) → AreDefinite names cs → normal_form names cs ≡ Ok (program_of names cs)
  definite_normal cs h = ap (program_or_fault names) (definite_rules [] 1 cs h.each (omega (arith, h.few)))

-- ---- clauses come and go

taken : {X : Type 0} (P : X → Type 0) (i : ℕ) (xs : List X) → AllByRecursion P xs → AllByRecursion P (take i xs)
taken P zero xs h = tt
taken P (suc i) [] h = tt
taken P (suc i) (x ∷ xs) h = (h.0, taken P i xs h.1)

dropped : {X : Type 0} (P : X → Type 0) (i : ℕ) (xs : List X) → AllByRecursion P xs → AllByRecursion P (drop i xs)
dropped P zero xs h = h
dropped P (suc i) [] h = tt
dropped P (suc i) (x ∷ xs) h = dropped P i xs h.1

fewer : {X : Type 0} (i j : ℕ) (xs : List X) → i ≤ j → length (take i xs ++ drop j xs) ≤ length xs
fewer zero zero xs le = omega arith
fewer zero (suc j) [] le = omega arith
fewer zero (suc j) (x ∷ xs) le = omega (arith, fewer 0 j xs (omega arith))
fewer (suc i) zero xs le = absurd (omega (arith, le))
fewer (suc i) (suc j) [] le = omega arith
fewer (suc i) (suc j) (x ∷ xs) le = omega (arith, fewer i j xs (omega (arith, le)))

-- a clause may be added where there is room
room : (at n : ℕ) → ◌≡◌ {A = Option Fault} (if nat_le 16384 n then Some (kind.ManyClauses, at) else None) None → n + 1 ≤ 16384
room at n = by_test (nat_le 16384 n) refl
  where
    by_test : (b : Bool) → nat_le 16384 n ≡ b → ◌≡◌ {A = Option Fault} (if b then Some (kind.ManyClauses, at) else None) None → n + 1 ≤ 16384
    by_test true e h = absurd (let k = h in cc)
    by_test false e h = omega (arith, leb-false 16384 n e)

module _ (names : List (List ℕ)) where
  abbrev Fine : Clause → Type 0
  Fine c = parted_fault names c ≡ None

  pub definite_added : (cs : List Clause) (c : Clause) → AreDefinite names cs → added_fault names (length cs) c ≡ None → AreDefinite names (cs ++ c ∷ [])
  definite_added cs c h e =
      let p = both_none (parted_fault names c) (if nat_le 16384 (length cs) then Some (kind.ManyClauses, place c.term) else None) e in
      record { each = all_append Fine cs (c ∷ []) h.each (p.0, tt); few = omega (arith, length-append cs (c ∷ []), room (place c.term) (length cs) p.1) }

  pub definite_taken : (cs : List Clause) (i j : ℕ) → i ≤ j → AreDefinite names cs → AreDefinite names (take i cs ++ drop j cs)
  definite_taken cs i j le h = record {
    each = all_append Fine (take i cs) (drop j cs) (taken Fine i cs h.each) (dropped Fine j cs h.each);
    few = omega (arith, fewer i j cs le, h.few);
  }
