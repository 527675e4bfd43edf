-- The clauses that are made of a clause are no larger than it: no more variables, no more nodes of arguments, no more
-- calls than nodes.
use Rattle.std.proofs.Common.{◌≡◌, ◌≢◌, ℕ, suc, ◌+◌, ◌≤◌, ◌||◌, Bool, true, false, nat_lt, nat_eq, if◌then◌else◌, cond, List, [], ◌∷◌, ◌++◌, map, length, Option, Some, None, Result, Ok, Err, ◌⊎◌, inl, inr, refl, sym, ◌∙◌, ap, subst, append_assoc, append-nil, length-append, arith, sum_by, eqb-true, eq-eqb}
use Rattle.std.specs.List.{AllByRecursion, filter}
use Rattle.std.proofs.lemmas.Bool.{ltb-true, ltb-false}
use Rattle.std.proofs.lemmas.List.Sums.{sum_by-append, sum_by-cons}
use Rattle.cti_terms.specs.Tree.{Tree as Term, Variable, nodes_of, all_nodes as term_nodes}
use Rattle.cti_terms.specs.declared.limits.TheConstants.{MOST_ARGUMENTS, MOST_VARIABLES}
use Rattle.prolog_grammar.specs.Placed.{Tree, tree, Shape, Var, Int, Fun, Trees, no_trees, more_trees}
use Rattle.prolog_reader.specs.Names.{name_text}
use Rattle.prolog_terms.specs.Clauses.{Clause, arity, place, list_of, nodes, shape_nodes, all_nodes}
use Rattle.clause_normal.specs.declared.limits.TheConstants.{MOST_TEXT_CLAUSES}
use Rattle.clause_normal.specs.declared.fault.NormKind.{NormKind}
use Rattle.clause_normal.specs.declared.fault.NormKind.TheVariants as kind
use Rattle.clause_normal.specs.declared.words.Connective.{Connective}
use Rattle.clause_normal.specs.declared.words.Connective.TheVariants as connective
use Rattle.clause_normal.specs.declared.words.Neck.{Neck}
use Rattle.clause_normal.specs.declared.words.Neck.TheVariants as neck
use Rattle.clause_normal.specs.Words.{is_impure, is_choice_name, connective_of, neck_of}
use Rattle.clause_variables.specs.Terms.{plain, plain_shape, plain_terms, plain_list, variables, all_variables, list_variables, occurrences, is_among, with_number, with_numbers, firsts}
use Rattle.clause_variables.specs.Terms.{count}
use Rattle.clause_normal.specs.Bodies.{Goal, Goals, Branches, call, choice, bad, no_goals, more_goals, no_branches, more_branches, one_goal, joined, joined_branches, arguments, Body, of_goals, atom_goal, choice_goal, disjunction, named_body, body_of, shape_body, argument_bodies}
use Rattle.clause_normal.specs.Rules.{Call, Rule, choice_call, choices_at, choices, inner, inner_at, call_at, calls, below, below_at, branch_rules, rules, after}
use Rattle.clause_normal.specs.Numbering.{call_variables}
use Rattle.clause_normal.specs.NormalForm.{Fault, first_of, goals_fault, head_fault, head_call, variables_fault, Form, skipped, refused, clause, is_silent_goal, named_form, form_of, clause_fault, Made, made_or_fault, with_form, with_clause, and_next, normal_rules}
use Rattle.clause_normal.specs.Small.{call_nodes, IsSmall}
use Rattle.clause_normal.proofs.NumberingLemmas.{variables_of_variables}
use Rattle.clause_variables.proofs.OrderLemmas.{all_firsts, all_filter}

-- ---- numbers that are among others

abbrev pub In : ℕ → List ℕ → Type 0
In x [] = ⊥
In x (y ∷ ys) = (y ≡ x) ⊎ In x ys

abbrev pub AllIn : List ℕ → List ℕ → Type 0
AllIn ys xs = AllByRecursion (λ (x : ℕ). In x ys) xs

pub all_append : {X : Type 0} (P : X → Type 0) (xs ys : List X) → AllByRecursion P xs → AllByRecursion P ys → AllByRecursion P (xs ++ ys)
all_append P [] ys h k = k
all_append P (x ∷ xs) ys h k = (h.0, all_append P xs ys h.1 k)

pub all_left : {X : Type 0} (P : X → Type 0) (xs ys : List X) → AllByRecursion P (xs ++ ys) → AllByRecursion P xs
all_left P [] ys h = tt
all_left P (x ∷ xs) ys h = (h.0, all_left P xs ys h.1)

pub all_right : {X : Type 0} (P : X → Type 0) (xs ys : List X) → AllByRecursion P (xs ++ ys) → AllByRecursion P ys
all_right P [] ys h = h
all_right P (x ∷ xs) ys h = all_right P xs ys h.1

in_left : (x : ℕ) (xs ys : List ℕ) → In x xs → In x (xs ++ ys)
in_left x [] ys h = absurd h
in_left x (z ∷ xs) ys (inl e) = inl e
in_left x (z ∷ xs) ys (inr h) = inr (in_left x xs ys h)

in_right : (x : ℕ) (xs ys : List ℕ) → In x ys → In x (xs ++ ys)
in_right x [] ys h = h
in_right x (z ∷ xs) ys h = inr (in_right x xs ys h)

all_mapped : {X : Type 0} (P Q : X → Type 0) (xs : List X) → ((x : X) → P x → Q x) → AllByRecursion P xs → AllByRecursion Q xs
all_mapped P Q [] f h = tt
all_mapped P Q (x ∷ xs) f h = (f x h.0, all_mapped P Q xs f h.1)

pub all_self : (xs : List ℕ) → AllIn xs xs
all_self [] = tt
all_self (x ∷ xs) = (inl refl, all_mapped (λ (y : ℕ). In y xs) (λ (y : ℕ). In y (x ∷ xs)) xs (λ y h. inr h) (all_self xs))

-- numbers without this one, where it stands first
abbrev Without : ℕ → List ℕ → Type 0
Without x ys = (zs : List ℕ) × (length ys ≡ suc (length zs)) × ((y : ℕ) → y ≢ x → In y ys → In y zs)

without : (x : ℕ) (ys : List ℕ) → In x ys → Without x ys
without x [] h = absurd h
without x (y ∷ ys) (inl e) = (ys, refl, λ z apart i. elim i [ inl f ↦ absurd (apart (sym f ∙ e)) | inr j ↦ j ])
without x (y ∷ ys) (inr h) =
    let r = without x ys h in
    (y ∷ r.0, ap suc r.1, λ z apart i. elim i [ inl f ↦ inl f | inr j ↦ inr (r.2 z apart j) ])

-- no two are the same
abbrev Distinct : List ℕ → Type 0
Distinct [] = Unit {0}
Distinct (x ∷ xs) = AllByRecursion (λ (y : ℕ). y ≢ x) xs × Distinct xs

all_both : {X : Type 0} (P Q R : X → Type 0) (xs : List X) → ((x : X) → P x → Q x → R x) → AllByRecursion P xs → AllByRecursion Q xs → AllByRecursion R xs
all_both P Q R [] f h k = tt
all_both P Q R (x ∷ xs) f h k = (f x h.0 k.0, all_both P Q R xs f h.1 k.1)

-- different numbers that are all among others are no more than these
pigeons : (xs ys : List ℕ) → Distinct xs → AllIn ys xs → length xs ≤ length ys
pigeons [] ys d h = omega arith
pigeons (x ∷ xs) ys d h =
    let r = without x ys h.0 in
    let l = pigeons xs r.0 d.1 (all_both (λ (y : ℕ). y ≢ x) (λ (y : ℕ). In y ys) (λ (y : ℕ). In y r.0) xs (λ y apart i. r.2 y apart i) d.0 h.1) in
    omega (arith, l, r.1)

apart_any : (x : ℕ) (xs : List ℕ) → is_among xs x ≡ false → AllByRecursion (λ (y : ℕ). y ≢ x) xs
apart_any x [] h = tt
apart_any x (y ∷ ys) h = by_test (nat_eq x y) refl h (λ f. apart_any x ys f)
  where
    by_test : (b : Bool) → nat_eq x y ≡ b → (b || is_among ys x) ≡ false → (is_among ys x ≡ false → AllByRecursion (λ (z : ℕ). z ≢ x) ys) → AllByRecursion (λ (z : ℕ). z ≢ x) (y ∷ ys)
    by_test true e f later = cc
    by_test false e f later = ((λ same. let t = eq-eqb x y (sym same) in let both = sym t ∙ e in cc), later f)

distinct_push : (xs : List ℕ) (x : ℕ) → Distinct xs → AllByRecursion (λ (y : ℕ). y ≢ x) xs → Distinct (xs ++ x ∷ [])
distinct_push [] x d h = (tt, tt)
distinct_push (y ∷ ys) x d h = (all_append (λ (z : ℕ). z ≢ y) ys (x ∷ []) d.0 ((λ same. h.0 (sym same)), tt), distinct_push ys x d.1 h.1)

distinct_number : (xs : List ℕ) (x : ℕ) → Distinct xs → Distinct (with_number xs x)
distinct_number xs x d = by_test (is_among xs x) refl
  where
    by_test : (b : Bool) → is_among xs x ≡ b → Distinct (if b then xs else xs ++ x ∷ [])
    by_test true e = d
    by_test false e = distinct_push xs x d (apart_any x xs e)

distinct_numbers : (xs ys : List ℕ) → Distinct xs → Distinct (with_numbers xs ys)
distinct_numbers xs [] d = d
distinct_numbers xs (y ∷ ys) d = distinct_numbers (with_number xs y) ys (distinct_number xs y d)

distinct_firsts : (xs : List ℕ) → Distinct (firsts xs)
distinct_firsts xs = distinct_numbers [] xs tt

-- each number is among the firsts
in_number : (x : ℕ) (xs : List ℕ) (y : ℕ) → In x xs → In x (with_number xs y)
in_number x xs y h = by_test (is_among xs y)
  where
    by_test : (b : Bool) → In x (if b then xs else xs ++ y ∷ [])
    by_test true = h
    by_test false = in_left x xs (y ∷ []) h

in_numbers : (x : ℕ) (xs ys : List ℕ) → In x xs → In x (with_numbers xs ys)
in_numbers x xs [] h = h
in_numbers x xs (y ∷ ys) h = in_numbers x (with_number xs y) ys (in_number x xs y h)

among_in : (x : ℕ) (xs : List ℕ) → is_among xs x ≡ true → In x xs
among_in x [] h = cc
among_in x (y ∷ ys) h = by_test (nat_eq x y) refl h (λ f. among_in x ys f)
  where
    by_test : (b : Bool) → nat_eq x y ≡ b → (b || is_among ys x) ≡ true → (is_among ys x ≡ true → In x ys) → (y ≡ x) ⊎ In x ys
    by_test true e f later = inl (sym (eqb-true x y e))
    by_test false e f later = inr (later f)

number_there : (xs : List ℕ) (x : ℕ) → In x (with_number xs x)
number_there xs x = by_test (is_among xs x) refl
  where
    by_test : (b : Bool) → is_among xs x ≡ b → In x (if b then xs else xs ++ x ∷ [])
    by_test true e = among_in x xs e
    by_test false e = in_right x xs (x ∷ []) (inl refl)

numbers_there : (xs ys : List ℕ) (x : ℕ) → In x ys → In x (with_numbers xs ys)
numbers_there xs [] x h = absurd h
numbers_there xs (y ∷ ys) x (inl e) = let P : ℕ → Type 0 = λ z. In z (with_numbers (with_number xs y) ys) in subst P e (in_numbers y (with_number xs y) ys (number_there xs y))
numbers_there xs (y ∷ ys) x (inr h) = numbers_there (with_number xs y) ys x h

-- fewer different numbers
pub firsts_fewer : (xs ys : List ℕ) → AllIn ys xs → length (firsts xs) ≤ length (firsts ys)
firsts_fewer xs ys h =
    pigeons (firsts xs) (firsts ys) (distinct_firsts xs)
    (all_firsts (λ (x : ℕ). In x (firsts ys)) xs (all_mapped (λ (x : ℕ). In x ys) (λ (x : ℕ). In x (firsts ys)) xs (λ x i. numbers_there [] ys x i) h))

-- ---- arguments of a disjunction occur elsewhere

count_append : (xs ys : List ℕ) (x : ℕ) → count (xs ++ ys) x ≡ count xs x + count ys x
count_append xs ys x = sum_by-append (λ (y : ℕ). cond (nat_eq x y) 1 0) xs ys

counted_in : (x : ℕ) (xs : List ℕ) → 1 ≤ count xs x → In x xs
counted_in x [] h = absurd (omega (arith, h))
counted_in x (y ∷ ys) h = by_test (nat_eq x y) refl (λ l. counted_in x ys l)
  where
    by_test : (b : Bool) → nat_eq x y ≡ b → (1 ≤ count ys x → In x ys) → (y ≡ x) ⊎ In x ys
    by_test true e later = inl (sym (eqb-true x y e))
    by_test false e later =
        let none = ap (λ (b : Bool). cond {A = ℕ} b 1 0) e in
        inr (later (omega (arith, h, none, sum_by-cons (λ (z : ℕ). cond (nat_eq x z) 1 0) y ys)))

filter_passes : (p : ℕ → Bool) (xs : List ℕ) → AllByRecursion (λ (x : ℕ). p x ≡ true) (filter p xs)
filter_passes p [] = tt
filter_passes p (x ∷ xs) = by_test (p x) refl (filter_passes p xs)
  where
    by_test : (b : Bool) → p x ≡ b → AllByRecursion (λ (y : ℕ). p y ≡ true) (filter p xs) → AllByRecursion (λ (y : ℕ). p y ≡ true) (if b then x ∷ filter p xs else filter p xs)
    by_test true e later = (e, later)
    by_test false e later = later

pub arguments_few : (pre own post : List ℕ) → length (arguments (pre ++ (own ++ post)) own) ≤ length pre + length post
arguments_few pre own post =
    let all = pre ++ (own ++ post) in
    let p : ℕ → Bool = λ x. nat_lt (count own x) (count all x) in
    let elsewhere : (x : ℕ) → p x ≡ true → In x (pre ++ post) =
    λ x t.
    let l = ltb-true (count own x) (count all x) t in
    counted_in x (pre ++ post) (omega (arith, l, count_append pre (own ++ post) x, count_append own post x, count_append pre post x)) in
    let h = all_firsts (λ (x : ℕ). In x (pre ++ post)) (filter p own) (all_mapped (λ (x : ℕ). p x ≡ true) (λ (x : ℕ). In x (pre ++ post)) (filter p own) elsewhere (filter_passes p own)) in
    let l = pigeons (firsts (filter p own)) (pre ++ post) (distinct_firsts (filter p own)) h in
    omega (arith, l, length-append pre post)

arguments_in : (ys all own : List ℕ) → AllIn ys own → AllIn ys (arguments all own)
arguments_in ys all own h = all_firsts (λ (x : ℕ). In x ys) (filter (λ x. nat_lt (count own x) (count all x)) own) (all_filter (λ (x : ℕ). In x ys) (λ x. nat_lt (count own x) (count all x)) own h)

-- ---- nodes and variables of terms

mutual
  plain_nodes : (t : Tree) → nodes_of (plain t) ≡ nodes t
  plain_nodes (tree at s) = shape_plain_nodes s

  shape_plain_nodes : (s : Shape) → nodes_of (plain_shape s) ≡ shape_nodes s
  shape_plain_nodes (Var x) = refl
  shape_plain_nodes (Int i) = refl
  shape_plain_nodes (Fun f ts) = let e = all_plain_nodes ts in omega (arith, e)

  all_plain_nodes : (ts : Trees) → term_nodes (plain_terms ts) ≡ all_nodes ts
  all_plain_nodes no_trees = refl
  all_plain_nodes (more_trees t ts) = let e = plain_nodes t in let f = all_plain_nodes ts in omega (arith, e, f)

mutual
  few_occurrences : (t : Tree) → length (occurrences t) ≤ nodes t
  few_occurrences (tree at s) = few_shape s

  few_shape : (s : Shape) → length (variables (plain_shape s)) ≤ shape_nodes s
  few_shape (Var x) = omega arith
  few_shape (Int i) = omega arith
  few_shape (Fun f ts) = let l = few_all ts in omega (arith, l)

  few_all : (ts : Trees) → length (all_variables (plain_terms ts)) ≤ all_nodes ts
  few_all no_trees = omega arith
  few_all (more_trees t ts) = let l = few_occurrences t in let k = few_all ts in omega (arith, l, k, length-append (occurrences t) (all_variables (plain_terms ts)))

-- the nodes of arguments
pub args_nodes : List Term → ℕ
args_nodes [] = 0
args_nodes (t ∷ ts) = nodes_of t + args_nodes ts

list_nodes : (ts : Trees) → args_nodes (plain_list ts) ≡ all_nodes ts
unfolding args_nodes
list_nodes no_trees = refl
list_nodes (more_trees t ts) = let e = plain_nodes t in let f = list_nodes ts in omega (arith, e, f)

variables_nodes : (xs : List ℕ) → args_nodes (map Variable xs) ≡ length xs
unfolding args_nodes
variables_nodes [] = refl
variables_nodes (x ∷ xs) = let e = variables_nodes xs in omega (arith, e)

list_occurrences : (ts : Trees) → list_variables (plain_list ts) ≡ all_variables (plain_terms ts)
list_occurrences no_trees = refl
list_occurrences (more_trees t ts) = ap (λ (xs : List ℕ). occurrences t ++ xs) (list_occurrences ts)

-- ---- goals

abbrev pub count_goals : Goals → ℕ
count_goals no_goals = 0
count_goals (more_goals g gs) = suc (count_goals gs)

unfoldable pub goal_weight : Goal → ℕ
goal_weight (call f ts) = args_nodes ts
goal_weight (choice args bs) = length args
goal_weight (bad k at) = 0

pub weight : Goals → ℕ
weight no_goals = 0
weight (more_goals g gs) = goal_weight g + weight gs

-- limits: the variables are among some, and bodies have at most the given number of goals and nodes, with those of
-- their heads
module _ (most : ℕ) (ys : List ℕ) where
  abbrev mutual
    pub GoalsFit : Goals → Type 0
    GoalsFit no_goals = Unit {0}
    GoalsFit (more_goals g gs) = GoalFit g × GoalsFit gs

    pub GoalFit : Goal → Type 0
    GoalFit (call f ts) = AllIn ys (list_variables ts)
    GoalFit (choice args bs) = AllIn ys args × BranchesFit (length args) bs
    GoalFit (bad k at) = Unit {0}

    pub BranchesFit : ℕ → Branches → Type 0
    BranchesFit h no_branches = Unit {0}
    BranchesFit h (more_branches b bs) = (count_goals b ≤ most) × (h + weight b ≤ most) × GoalsFit b × BranchesFit h bs

  -- a body of this term
  record BodyFit (t : Tree) (b : Body) : Type 0 where
    level : (all : List ℕ) → count_goals (b.goals all) ≤ nodes t
    heavy : (all : List ℕ) → weight (b.goals all) ≤ nodes t
    goals : (all pre post : List ℕ) → all ≡ pre ++ (occurrences t ++ post) → length pre + length post + nodes t ≤ most → AllIn ys (occurrences t) → GoalsFit (b.goals all)
    branches : (args : List ℕ) → length args + nodes t ≤ most → AllIn ys (occurrences t) → BranchesFit (length args) (b.branches args)

  of_goals_fit : (t : Tree) (goals : List ℕ → Goals) → ((all : List ℕ) → count_goals (goals all) ≤ nodes t) → ((all : List ℕ) → weight (goals all) ≤ nodes t)
      → ((all pre post : List ℕ) → all ≡ pre ++ (occurrences t ++ post) → length pre + length post + nodes t ≤ most → AllIn ys (occurrences t) → GoalsFit (goals all)) → BodyFit t (of_goals t goals)
  of_goals_fit t goals l w h = record {
    level = l;
    heavy = w;
    goals = h;
    branches = λ args le i.
        let all = args ++ occurrences t in
        let k = l all in
        let v = w all in
        (omega (arith, k, le), omega (arith, v, le), h all args [] (ap (λ (xs : List ℕ). args ++ xs) (sym (append-nil (occurrences t)))) (omega (arith, le)) i, tt);
  }

  -- a goal that is not a disjunction, of a term
  abbrev pub PlainFit : Tree → Goal → Type 0
  PlainFit t g = (goal_weight g ≤ nodes t) × (AllIn ys (occurrences t) → GoalFit g)

  if_fit : (t : Tree) (b : Bool) (g h : Goal) → PlainFit t g → PlainFit t h → PlainFit t (if b then g else h)
  if_fit t true g h k l = k
  if_fit t false g h k l = l

  pub atom_fit : (names : List (List ℕ)) (t : Tree) → PlainFit t (atom_goal names t)
  unfolding goal_weight
  atom_fit names (tree at (Var x)) = (omega arith, λ i. tt)
  atom_fit names (tree at (Int n)) = (omega arith, λ i. tt)
  atom_fit names (tree at (Fun f ts)) =
      let t = tree at (Fun f ts) in
      let args = plain_list ts in
      let called : PlainFit t (call f args) = (let e = list_nodes ts in omega (arith, e), λ i. subst (AllIn ys) (sym (list_occurrences ts)) i) in
      if_fit t (is_impure (name_text names f) (length args) || is_choice_name (name_text names f)) (bad kind.NotPure at) (if nat_lt MOST_ARGUMENTS (length args) then bad kind.Arity at else call f args) (omega arith, λ i. tt)
      (if_fit t (nat_lt MOST_ARGUMENTS (length args)) (bad kind.Arity at) (call f args) (omega arith, λ i. tt) called)

  pub some_nodes : (t : Tree) → 1 ≤ nodes t
  some_nodes (tree at (Var x)) = omega arith
  some_nodes (tree at (Int n)) = omega arith
  some_nodes (tree at (Fun f ts)) = omega arith

  atom_body_fit : (names : List (List ℕ)) (t : Tree) → BodyFit t (of_goals t (λ all. one_goal (atom_goal names t)))
  unfolding weight
  atom_body_fit names t =
      let f = atom_fit names t in
      of_goals_fit t (λ all. one_goal (atom_goal names t)) (λ all. some_nodes t) (λ all. let l = f.0 in omega (arith, l)) (λ all pre post e le i. (f.1 i, tt))

  -- a list of goals
  joined_count : (gs hs : Goals) → count_goals (joined gs hs) ≡ count_goals gs + count_goals hs
  joined_count no_goals hs = omega arith
  joined_count (more_goals g gs) hs = let e = joined_count gs hs in omega (arith, e)

  joined_weight : (gs hs : Goals) → weight (joined gs hs) ≡ weight gs + weight hs
  unfolding weight
  joined_weight no_goals hs = omega arith
  joined_weight (more_goals g gs) hs = let e = joined_weight gs hs in omega (arith, e)

  joined_fit : (gs hs : Goals) → GoalsFit gs → GoalsFit hs → GoalsFit (joined gs hs)
  joined_fit no_goals hs h k = k
  joined_fit (more_goals g gs) hs h k = (h.0, joined_fit gs hs h.1 k)

  branches_fit : (n : ℕ) (bs cs : Branches) → BranchesFit n bs → BranchesFit n cs → BranchesFit n (joined_branches bs cs)
  branches_fit n no_branches cs h k = k
  branches_fit n (more_branches b bs) cs h k = (h.0, h.1, h.2, branches_fit n bs cs h.3 k)

  -- a term with two arguments
  module _ (names : List (List ℕ)) (at f : ℕ) (t u : Tree) (h : BodyFit t (body_of names t)) (k : BodyFit u (body_of names u)) where
    abbrev both : Tree
    both = tree at (Fun f (more_trees t (more_trees u no_trees)))

    both_occurrences : occurrences both ≡ occurrences t ++ occurrences u
    both_occurrences = ap (λ (xs : List ℕ). occurrences t ++ xs) (append-nil (occurrences u))

    left_in : AllIn ys (occurrences both) → AllIn ys (occurrences t)
    left_in i = all_left (λ (x : ℕ). In x ys) (occurrences t) (occurrences u ++ []) i

    right_in : AllIn ys (occurrences both) → AllIn ys (occurrences u)
    right_in i = all_left (λ (x : ℕ). In x ys) (occurrences u) [] (all_right (λ (x : ℕ). In x ys) (occurrences t) (occurrences u ++ []) i)

    and_fit : BodyFit both (of_goals both (λ all. joined ((body_of names t).goals all) ((body_of names u).goals all)))
    and_fit =
        of_goals_fit both (λ all. joined ((body_of names t).goals all) ((body_of names u).goals all))
        (λ all. let l = h.level all in let m = k.level all in omega (arith, l, m, joined_count ((body_of names t).goals all) ((body_of names u).goals all)))
        (λ all. let l = h.heavy all in let m = k.heavy all in omega (arith, l, m, joined_weight ((body_of names t).goals all) ((body_of names u).goals all)))
        (λ all pre post e le i.
        let whole = e ∙ ap (λ (xs : List ℕ). pre ++ (xs ++ post)) both_occurrences in
        let left = whole ∙ ap (λ (xs : List ℕ). pre ++ xs) (append_assoc (occurrences t) (occurrences u) post) in
        let right = left ∙ sym (append_assoc pre (occurrences t) (occurrences u ++ post)) in
        joined_fit ((body_of names t).goals all) ((body_of names u).goals all)
        (h.goals all pre (occurrences u ++ post) left (omega (arith, le, few_occurrences u, length-append (occurrences u) post)) (left_in i))
        (k.goals all (pre ++ occurrences t) post right (omega (arith, le, few_occurrences t, length-append pre (occurrences t))) (right_in i)))

    or_branches : (args : List ℕ) → length args + nodes both ≤ most → AllIn ys (occurrences both) → BranchesFit (length args) (joined_branches ((body_of names t).branches args) ((body_of names u).branches args))
    or_branches args le i =
        branches_fit (length args) ((body_of names t).branches args) ((body_of names u).branches args) (h.branches args (omega (arith, le)) (left_in i)) (k.branches args (omega (arith, le)) (right_in i))

    choice_fit : (all pre post : List ℕ) → all ≡ pre ++ (occurrences both ++ post) → length pre + length post + nodes both ≤ most → AllIn ys (occurrences both)
        → GoalFit (choice_goal at (arguments all (occurrences both)) (λ args. joined_branches ((body_of names t).branches args) ((body_of names u).branches args)))
    choice_fit all pre post e le i = by_test (nat_lt MOST_ARGUMENTS (length args))
      where
        args : List ℕ
        args = arguments all (occurrences both)

        few : length args ≤ length pre + length post
        few = let P : List ℕ → Type 0 = λ xs. length (arguments xs (occurrences both)) ≤ length pre + length post in subst P (sym e) (arguments_few pre (occurrences both) post)

        by_test : (b : Bool) → GoalFit (if b then bad kind.Arity at else choice args (joined_branches ((body_of names t).branches args) ((body_of names u).branches args)))
        by_test true = tt
        by_test false = (arguments_in ys all (occurrences both) i, or_branches args (omega (arith, few, le)) i)

    own_few : (all : List ℕ) → length (arguments all (occurrences both)) ≤ nodes both
    own_few all =
        let l = pigeons (arguments all (occurrences both)) (occurrences both) (distinct_firsts (filter (λ x. nat_lt (count (occurrences both) x) (count all x)) (occurrences both)))
        (arguments_in (occurrences both) all (occurrences both) (all_self (occurrences both))) in
        let k = few_occurrences both in
        omega (arith, l, k)

    choice_weight : (all : List ℕ) (bs : List ℕ → Branches) → goal_weight (choice_goal at (arguments all (occurrences both)) bs) ≤ nodes both
    unfolding goal_weight
    choice_weight all bs = by_test (nat_lt MOST_ARGUMENTS (length (arguments all (occurrences both))))
      where
        by_test : (b : Bool) → goal_weight (if b then bad kind.Arity at else choice (arguments all (occurrences both)) (bs (arguments all (occurrences both)))) ≤ nodes both
        by_test true = omega arith
        by_test false = own_few all

    or_fit : BodyFit both (disjunction both at (body_of names t) (body_of names u))
    unfolding weight
    or_fit = record {
      level = λ all. some_nodes both;
      heavy = λ all. let l = choice_weight all (λ args. joined_branches ((body_of names t).branches args) ((body_of names u).branches args)) in omega (arith, l);
      goals = λ all pre post e le i. (choice_fit all pre post e le i, tt);
      branches = or_branches;
    }

  AllFit : List (List ℕ) → Trees → Type 0
  AllFit names no_trees = Unit {0}
  AllFit names (more_trees t ts) = BodyFit t (body_of names t) × AllFit names ts

  named_fit : (names : List (List ℕ)) (at f : ℕ) (c : Connective) (ts : Trees) → AllFit names ts → BodyFit (tree at (Fun f ts)) (named_body names (tree at (Fun f ts)) at c (argument_bodies names ts))
  unfolding AllFit weight
  named_fit names at f connective.And (more_trees t (more_trees u no_trees)) (h, (k, tt)) = and_fit names at f t u h k
  named_fit names at f connective.Or (more_trees t (more_trees u no_trees)) (h, (k, tt)) = or_fit names at f t u h k
  named_fit names at f connective.Truth ts h = of_goals_fit (tree at (Fun f ts)) (λ all. no_goals) (λ all. omega arith) (λ all. omega arith) (λ all pre post e le i. tt)
  named_fit names at f c ts h = atom_body_fit names (tree at (Fun f ts))

  mutual
    unfolding AllFit

    body_fit : (names : List (List ℕ)) (t : Tree) → BodyFit t (body_of names t)
    body_fit names (tree at s) = shape_fit names at s

    shape_fit : (names : List (List ℕ)) (at : ℕ) (s : Shape) → BodyFit (tree at s) (shape_body names at s)
    shape_fit names at (Var x) = atom_body_fit names (tree at (Var x))
    shape_fit names at (Int n) = atom_body_fit names (tree at (Int n))
    shape_fit names at (Fun f ts) = named_fit names at f (connective_of (name_text names f) (arity ts)) ts (arguments_fit names ts)

    arguments_fit : (names : List (List ℕ)) (ts : Trees) → AllFit names ts
    arguments_fit names no_trees = tt
    arguments_fit names (more_trees t ts) = (body_fit names t, arguments_fit names ts)

  -- ---- clauses

  abbrev FormFit : Form → Type 0
  FormFit skipped = Unit {0}
  FormFit (refused k) = Unit {0}
  FormFit (clause u gs) = (count_goals gs ≤ most) × (args_nodes (head_call u).args + weight gs ≤ most) × AllIn ys (list_variables (head_call u).args) × GoalsFit gs

  head_nodes : (u : Tree) → args_nodes (head_call u).args ≤ nodes u
  unfolding args_nodes
  head_nodes (tree at (Var x)) = omega arith
  head_nodes (tree at (Int n)) = omega arith
  head_nodes (tree at (Fun f ts)) = let e = list_nodes ts in omega (arith, e)

  head_in : (u : Tree) → AllIn ys (occurrences u) → AllIn ys (list_variables (head_call u).args)
  head_in (tree at (Var x)) i = tt
  head_in (tree at (Int n)) i = tt
  head_in (tree at (Fun f ts)) i = subst (AllIn ys) (sym (list_occurrences ts)) i

  fact_fit : (u : Tree) → nodes u ≤ most → AllIn ys (occurrences u) → FormFit (clause u no_goals)
  unfolding weight
  fact_fit u le i = let l = head_nodes u in (omega arith, omega (arith, l, le), head_in u i, tt)

  silent_fit : (b : Bool) (k : NormKind) → FormFit (if b then skipped else refused k)
  silent_fit true k = tt
  silent_fit false k = tt

  rule_fit : (names : List (List ℕ)) (at f : ℕ) (u b : Tree) → nodes (tree at (Fun f (more_trees u (more_trees b no_trees)))) ≤ most → AllIn ys (occurrences (tree at (Fun f (more_trees u (more_trees b no_trees)))))
      → FormFit (clause u ((body_of names b).goals (occurrences u ++ occurrences b)))
  rule_fit names at f u b le i =
      let all = occurrences u ++ occurrences b in
      let h = body_fit names b in
      let l = h.level all in
      let w = h.heavy all in
      let n = head_nodes u in (
        omega (arith, l, le),
        omega (arith, w, n, le),
        head_in u (left_in names at f u b (body_fit names u) h i),
        h.goals all (occurrences u) [] (ap (λ (xs : List ℕ). occurrences u ++ xs) (sym (append-nil (occurrences b)))) (let k = few_occurrences u in omega (arith, k, le)) (right_in names at f u b (body_fit names u) h i),
      )

  named_form_fit : (names : List (List ℕ)) (at f : ℕ) (k : Neck) (ts : Trees) → nodes (tree at (Fun f ts)) ≤ most → AllIn ys (occurrences (tree at (Fun f ts))) → FormFit (named_form names (tree at (Fun f ts)) k (list_of ts))
  named_form_fit names at f neck.Directive (more_trees d no_trees) le i = silent_fit (is_silent_goal names d) kind.Directive
  named_form_fit names at f neck.Query ts le i = tt
  named_form_fit names at f neck.Implies (more_trees u (more_trees b no_trees)) le i = rule_fit names at f u b le i
  named_form_fit names at f neck.Grammar ts le i = tt
  named_form_fit names at f k ts le i = fact_fit (tree at (Fun f ts)) le i

  form_fit : (names : List (List ℕ)) (t : Tree) → nodes t ≤ most → AllIn ys (occurrences t) → FormFit (form_of names t)
  form_fit names (tree at (Var x)) le i = fact_fit (tree at (Var x)) le i
  form_fit names (tree at (Int n)) le i = fact_fit (tree at (Int n)) le i
  form_fit names (tree at (Fun f ts)) le i = named_form_fit names at f (neck_of (name_text names f) (arity ts)) ts le i

  -- ---- made clauses

  unfoldable pub calls_nodes : List Call → ℕ
  calls_nodes [] = 0
  calls_nodes (c ∷ cs) = args_nodes c.args + calls_nodes cs

  record RuleFit (r : Rule) : Type 0 where
    atoms : length r.body ≤ most
    nodes : calls_nodes (r.head ∷ r.body) ≤ most
    among : AllIn ys (call_variables (r.head ∷ r.body))

  pub nodes_append : (cs ds : List Call) → calls_nodes (cs ++ ds) ≡ calls_nodes cs + calls_nodes ds
  unfolding calls_nodes
  nodes_append [] ds = omega arith
  nodes_append (c ∷ cs) ds = let e = nodes_append cs ds in omega (arith, e)

  pub variables_append : (cs ds : List Call) → call_variables (cs ++ ds) ≡ call_variables cs ++ call_variables ds
  variables_append [] ds = refl
  variables_append (c ∷ cs) ds = ap (λ (xs : List ℕ). list_variables c.args ++ xs) (variables_append cs ds) ∙ sym (append_assoc (list_variables c.args) (call_variables cs) (call_variables ds))

  level_calls : (m : ℕ) (gs : Goals) → length (calls m gs) ≤ count_goals gs
  level_calls m no_goals = omega arith
  level_calls m (more_goals g gs) = let l = level_calls (m + choices_at g) gs in let k = one g in omega (arith, l, k, length-append (call_at m g) (calls (m + choices_at g) gs))
    where
      one : (g : Goal) → length (call_at m g) ≤ 1
      one (call f ts) = omega arith
      one (choice args bs) = omega arith
      one (bad k at) = omega arith

  weight_calls : (m : ℕ) (gs : Goals) → calls_nodes (calls m gs) ≡ weight gs
  unfolding calls_nodes weight goal_weight
  weight_calls m no_goals = refl
  weight_calls m (more_goals g gs) = let e = weight_calls (m + choices_at g) gs in let k = one g in omega (arith, e, k, nodes_append (call_at m g) (calls (m + choices_at g) gs))
    where
      one : (g : Goal) → calls_nodes (call_at m g) ≡ goal_weight g
      one (call f ts) = omega arith
      one (choice args bs) = let e = variables_nodes args in omega (arith, e)
      one (bad k at) = refl

  calls_in : (m : ℕ) (gs : Goals) → GoalsFit gs → AllIn ys (call_variables (calls m gs))
  calls_in m no_goals h = tt
  calls_in m (more_goals g gs) h =
      subst (AllIn ys) (sym (variables_append (call_at m g) (calls (m + choices_at g) gs)))
      (all_append (λ (x : ℕ). In x ys) (call_variables (call_at m g)) (call_variables (calls (m + choices_at g) gs)) (one g h.0) (calls_in (m + choices_at g) gs h.1))
    where
      one : (g : Goal) → GoalFit g → AllIn ys (call_variables (call_at m g))
      one (call f ts) i = subst (AllIn ys) (sym (append-nil (list_variables ts))) i
      one (choice args bs) i = subst (AllIn ys) (sym (append-nil (list_variables (map Variable args)) ∙ variables_of_variables args)) i.0
      one (bad k at) i = tt

  made_fit : (head : Call) (n : ℕ) (gs : Goals) → count_goals gs ≤ most → args_nodes head.args + weight gs ≤ most → AllIn ys (list_variables head.args) → GoalsFit gs → RuleFit (record { head = head; body = calls n gs })
  unfolding calls_nodes
  made_fit head n gs l w i h = record {
    atoms = let k = level_calls n gs in omega (arith, k, l);
    nodes = let e = weight_calls n gs in omega (arith, e, w);
    among = all_append (λ (x : ℕ). In x ys) (list_variables head.args) (call_variables (calls n gs)) i (calls_in n gs h);
  }

  mutual
    below_fit : (m n : ℕ) (gs : Goals) → GoalsFit gs → AllByRecursion RuleFit (below m n gs)
    below_fit m n no_goals h = tt
    below_fit m n (more_goals g gs) h = all_append RuleFit (below_at m n g) (below (m + choices_at g) (n + inner_at g) gs) (below_at_fit m n g h.0) (below_fit (m + choices_at g) (n + inner_at g) gs h.1)

    below_at_fit : (m n : ℕ) (g : Goal) → GoalFit g → AllByRecursion RuleFit (below_at m n g)
    below_at_fit m n (call f ts) h = tt
    below_at_fit m n (choice args bs) h =
        branch_rules_fit (choice_call m args) (length args) n bs (variables_nodes args) (subst (AllIn ys) (sym (variables_of_variables args)) h.0) h.1
    below_at_fit m n (bad k at) h = tt

    branch_rules_fit : (head : Call) (size n : ℕ) (bs : Branches) → args_nodes head.args ≡ size → AllIn ys (list_variables head.args) → BranchesFit size bs → AllByRecursion RuleFit (branch_rules head n bs)
    branch_rules_fit head size n no_branches e i h = tt
    branch_rules_fit head size n (more_branches b bs) e i h =
        all_append RuleFit (record { head = head; body = calls n b } ∷ below n (n + choices b) b) (branch_rules head (n + (choices b + inner b)) bs)
        (made_fit head n b h.0 (let w = h.1 in omega (arith, w, e)) i h.2, below_fit n (n + choices b) b h.2)
        (branch_rules_fit head size (n + (choices b + inner b)) bs e i h.3)

  rules_fit : (n : ℕ) (head : Call) (gs : Goals) → count_goals gs ≤ most → args_nodes head.args + weight gs ≤ most → AllIn ys (list_variables head.args) → GoalsFit gs → AllByRecursion RuleFit (rules n head gs)
  rules_fit n head gs l w i h = (made_fit head n gs l w i h, below_fit n (n + choices gs) gs h)

-- ---- the clauses of a text

args_sum : (ts : List Term) → args_nodes ts ≡ sum_by nodes_of ts
unfolding args_nodes
args_sum [] = refl
args_sum (t ∷ ts) = let e = args_sum ts in omega (arith, e, sum_by-cons nodes_of t ts)

pub calls_sum : (most : ℕ) (ys : List ℕ) (cs : List Call) → calls_nodes most ys cs ≡ sum_by call_nodes cs
unfolding calls_nodes
calls_sum most ys [] = refl
calls_sum most ys (c ∷ cs) = let e = calls_sum most ys cs in omega (arith, e, args_sum c.args, sum_by-cons call_nodes c cs)

small_of : (ys : List ℕ) (r : Rule) → length (firsts ys) ≤ MOST_VARIABLES → RuleFit 2097152 ys r → IsSmall r
small_of ys r le h = record {
  atoms = h.atoms;
  variables = let l = firsts_fewer (call_variables (r.head ∷ r.body)) ys h.among in omega (arith, l, le);
  nodes = let e = calls_sum 2097152 ys (r.head ∷ r.body) in let l = h.nodes in omega (arith, e, l);
}

pub none_first : (f g : Option Fault) → first_of f g ≡ None → g ≡ None
none_first None g e = e
none_first (Some f) g e = cc

pub few_variables : (at : ℕ) (xs : List ℕ) → variables_fault at xs ≡ None → length (firsts xs) ≤ MOST_VARIABLES
few_variables at xs e = by_test (nat_lt MOST_VARIABLES (length (firsts xs))) refl e
  where
    by_test : (b : Bool) → nat_lt MOST_VARIABLES (length (firsts xs)) ≡ b → ◌≡◌ {A = Option Fault} (if b then Some (kind.ManyVariables, at) else None) None → length (firsts xs) ≤ MOST_VARIABLES
    by_test true t e = cc
    by_test false t e = ltb-false MOST_VARIABLES (length (firsts xs)) t

abbrev MadeSmall : Made → Type 0
MadeSmall (Ok p) = AllByRecursion IsSmall p.0
MadeSmall (Err f) = Unit {0}

abbrev RulesSmall : Result (List Rule) Fault → Type 0
RulesSmall (Ok rs) = AllByRecursion IsSmall rs
RulesSmall (Err f) = Unit {0}

made_small : (f : Option Fault) (at : ℕ) (made : List Rule) (n : ℕ) → (f ≡ None → AllByRecursion IsSmall made) → MadeSmall (made_or_fault f at made n)
made_small (Some f) at made n h = tt
made_small None at made n h = by_test (nat_lt MOST_TEXT_CLAUSES (length made))
  where
    by_test : (b : Bool) → MadeSmall (if b then Err (kind.ManyClauses, at) else Ok (made, n))
    by_test true = tt
    by_test false = h refl

with_form_small : (names : List (List ℕ)) (made : List Rule) (n : ℕ) (c : Clause) (form : Form) → AllByRecursion IsSmall made → FormFit 2097152 (occurrences c.term) form → MadeSmall (with_form names made n c form)
with_form_small names made n c skipped all h = all
with_form_small names made n c (refused k) all h = tt
with_form_small names made n c (clause u gs) all h =
    made_small (clause_fault names c u gs) (place c.term) (made ++ rules n (head_call u) gs) (after n gs) small
  where
    small : clause_fault names c u gs ≡ None → AllByRecursion IsSmall (made ++ rules n (head_call u) gs)
    small e =
        let variables = none_first (goals_fault gs) (variables_fault (place c.term) (occurrences c.term)) (none_first (head_fault names u) (first_of (goals_fault gs) (variables_fault (place c.term) (occurrences c.term))) e) in
        let le = few_variables (place c.term) (occurrences c.term) variables in
        all_append IsSmall made (rules n (head_call u) gs) all
        (all_mapped (RuleFit 2097152 (occurrences c.term)) IsSmall (rules n (head_call u) gs) (λ r f. small_of (occurrences c.term) r le f)
        (rules_fit 2097152 (occurrences c.term) n (head_call u) gs h.0 h.1 h.2 h.3))

abbrev all_of : List Clause → ℕ
all_of cs = sum_by (λ (c : Clause). nodes c.term) cs

all_more : (c : Clause) (cs : List Clause) → all_of (c ∷ cs) ≡ nodes c.term + all_of cs
all_more c cs = sum_by-cons (λ (d : Clause). nodes d.term) c cs

next_small : (m : Made) (next : List Rule → ℕ → Result (List Rule) Fault) → MadeSmall m → ((made : List Rule) (n : ℕ) → AllByRecursion IsSmall made → RulesSmall (next made n)) → RulesSmall (and_next m next)
next_small (Ok p) next h k = k p.0 p.1 h
next_small (Err f) next h k = tt

rules_small : (names : List (List ℕ)) (made : List Rule) (n : ℕ) (cs : List Clause) → AllByRecursion IsSmall made → all_of cs ≤ 2097152 → RulesSmall (normal_rules names made n cs)
rules_small names made n [] all le = all
rules_small names made n (c ∷ cs) all le =
    let e = all_more c cs in
    next_small (with_clause names made n c) (λ made' n'. normal_rules names made' n' cs)
    (with_form_small names made n c (form_of names c.term) all (form_fit 2097152 (occurrences c.term) names c.term (omega (arith, e, le)) (all_self (occurrences c.term))))
    (λ made' n' all'. rules_small names made' n' cs all' (omega (arith, e, le)))

pub made_rules_small : (names : List (List ℕ)) (cs : List Clause) (rs : List Rule) → all_of cs ≤ 2097152 → normal_rules names [] 1 cs ≡ Ok rs → AllByRecursion IsSmall rs
made_rules_small names cs rs le e = let P : Result (List Rule) Fault → Type 0 = λ r. RulesSmall r in subst P e (rules_small names [] 1 cs tt le)
