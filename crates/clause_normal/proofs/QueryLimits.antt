-- The calls of a query are no larger than its term.
use Rattle.std.proofs.Common.{◌≡◌, ℕ, ◌+◌, ◌≤◌, List, [], ◌∷◌, ◌++◌, length, Option, Some, None, Result, Ok, Err, refl, sym, ◌∙◌, ap, subst, append_assoc, append-nil, length-append, arith, sum_by}
use Rattle.cti_terms.specs.Listing.{Listing}
use Rattle.cti_terms.specs.declared.derivation.Goal.{Goal as Query}
use Rattle.cti_terms.specs.declared.limits.TheConstants.{MOST_VARIABLES, MOST_NODES}
use Rattle.prolog_grammar.specs.Placed.{Tree, tree, Shape, Var, Int, Fun, Trees, no_trees, more_trees}
use Rattle.prolog_reader.specs.Names.{name_text}
use Rattle.prolog_terms.specs.Clauses.{Clause, arity, place, nodes}
use Rattle.clause_normal.specs.declared.words.Connective.{Connective}
use Rattle.clause_normal.specs.declared.words.Connective.TheVariants as connective
use Rattle.clause_normal.specs.Words.{connective_of}
use Rattle.clause_variables.specs.Terms.{occurrences, firsts}
use Rattle.clause_normal.specs.Bodies.{Goal, call, choice, bad, atom_goal}
use Rattle.clause_normal.specs.Rules.{Call}
use Rattle.clause_normal.specs.Numbering.{call_variables}
use Rattle.clause_normal.specs.NormalForm.{Fault, first_of, variables_fault}
use Rattle.clause_normal.specs.Query.{named_goals, query_goals, shape_goals, argument_goals, query_fault, query_call, query_calls, query_of, query_form}
use Rattle.clause_normal.specs.Small.{call_nodes}
use Rattle.clause_normal.proofs.SizeLemmas.{with_calls_few}
use Rattle.clause_normal.proofs.LimitLemmas.{AllIn, PlainFit, atom_fit, calls_nodes, goal_weight, nodes_append, variables_append, some_nodes, all_append, In, all_self, firsts_fewer, calls_sum, none_first, few_variables, all_left, all_right}

calls_append : (gs hs : List Goal) → query_calls (gs ++ hs) ≡ query_calls gs ++ query_calls hs
calls_append [] hs = refl
calls_append (g ∷ gs) hs = ap (λ (cs : List Call). query_call g ++ cs) (calls_append gs hs) ∙ sym (append_assoc (query_call g) (query_calls gs) (query_calls hs))

module _ (names : List (List ℕ)) (ys : List ℕ) where
  -- goals of a term: their calls have no more nodes, are no more than nodes, and have no other variables
  record GoalsOf (t : Tree) (gs : List Goal) : Type 0 where
    small : calls_nodes 0 ys (query_calls gs) ≤ nodes t
    few : length (query_calls gs) ≤ nodes t
    among : AllIn ys (occurrences t) → AllIn ys (call_variables (query_calls gs))

  one_of : (t : Tree) (g : Goal) → PlainFit 0 ys t g → GoalsOf t (g ∷ [])
  unfolding calls_nodes goal_weight
  one_of t (call f ts) h = record {
    small = let l = h.0 in omega (arith, l);
    few = some_nodes 0 ys t;
    among = λ i. subst (AllIn ys) (sym (append-nil _)) (h.1 i);
  }
  one_of t (choice args bs) h = record { small = omega arith; few = omega arith; among = λ i. tt }
  one_of t (bad k at) h = record { small = omega arith; few = omega arith; among = λ i. tt }

  none_of : (t : Tree) → GoalsOf t []
  unfolding calls_nodes
  none_of t = record { small = omega arith; few = omega arith; among = λ i. tt }

  both_of : (at f : ℕ) (t u : Tree) (gs hs : List Goal) → GoalsOf t gs → GoalsOf u hs → GoalsOf (tree at (Fun f (more_trees t (more_trees u no_trees)))) (gs ++ hs)
  both_of at f t u gs hs h k = record {
    small = let e = ap (calls_nodes 0 ys) (calls_append gs hs) in let a = nodes_append 0 ys (query_calls gs) (query_calls hs) in let l = h.small in let m = k.small in omega (arith, e, a, l, m);
    few = let e = ap (λ (cs : List Call). length cs) (calls_append gs hs) in let l = h.few in let m = k.few in omega (arith, e, l, m, length-append (query_calls gs) (query_calls hs));
    among = λ i.
        let P : ℕ → Type 0 = λ x. In x ys in
        let left = all_left P (occurrences t) (occurrences u ++ []) i in
        let right = all_left P (occurrences u) [] (all_right P (occurrences t) (occurrences u ++ []) i) in
        subst (AllIn ys) (sym (ap call_variables (calls_append gs hs) ∙ variables_append 0 ys (query_calls gs) (query_calls hs)))
        (all_append P (call_variables (query_calls gs)) (call_variables (query_calls hs)) (h.among left) (k.among right));
  }

  abbrev AllOf : Trees → Type 0
  AllOf no_trees = Unit {0}
  AllOf (more_trees t ts) = GoalsOf t (query_goals names t) × AllOf ts

  named_of : (at f : ℕ) (c : Connective) (ts : Trees) → AllOf ts → GoalsOf (tree at (Fun f ts)) (named_goals names (tree at (Fun f ts)) c (argument_goals names ts))
  named_of at f connective.And (more_trees t (more_trees u no_trees)) (h, (k, tt)) = both_of at f t u (query_goals names t) (query_goals names u) h k
  named_of at f connective.Truth ts h = none_of (tree at (Fun f ts))
  named_of at f c ts h = one_of (tree at (Fun f ts)) (atom_goal names (tree at (Fun f ts))) (atom_fit 0 ys names (tree at (Fun f ts)))

  mutual
    goals_of : (t : Tree) → GoalsOf t (query_goals names t)
    goals_of (tree at s) = shape_of at s

    shape_of : (at : ℕ) (s : Shape) → GoalsOf (tree at s) (shape_goals names at s)
    shape_of at (Var x) = one_of (tree at (Var x)) (atom_goal names (tree at (Var x))) (atom_fit 0 ys names (tree at (Var x)))
    shape_of at (Int n) = one_of (tree at (Int n)) (atom_goal names (tree at (Int n))) (atom_fit 0 ys names (tree at (Int n)))
    shape_of at (Fun f ts) = named_of at f (connective_of (name_text names f) (arity ts)) ts (all_of ts)

    all_of : (ts : Trees) → AllOf ts
    all_of no_trees = tt
    all_of (more_trees t ts) = (goals_of t, all_of ts)

-- ---- the goal of a query

pub query_nodes : (names : List (List ℕ)) (c : Clause) → nodes c.term ≤ 2097152 → sum_by call_nodes (query_calls (query_goals names c.term)) ≤ MOST_NODES
query_nodes names c le =
    let l = (goals_of names [] c.term).small in
    let e = calls_sum 0 [] (query_calls (query_goals names c.term)) in
    omega (arith, l, e, le)

abbrev Form : Type 0
Form = Result (Listing × Query) Fault

preds_of : Form → ℕ
preds_of (Ok r) = length r.0.preds
preds_of (Err f) = 0

fresh_of : Form → ℕ
fresh_of (Ok r) = r.1.fresh
fresh_of (Err f) = 0

module _ (names : List (List ℕ)) (p : Listing) (c : Clause) where
  abbrev cs : List Call
  cs = query_calls (query_goals names c.term)

  preds_by : (o : Option Fault) (q : Listing) (g : Query) → query_of names p cs o ≡ Ok (q, g) → length q.preds ≤ length p.preds + length cs
  unfolding preds_of
  preds_by None q g e = let same = ap preds_of e in let l = with_calls_few names p.preds cs in omega (arith, same, l)
  preds_by (Some f) q g e = cc

  fresh_by : (o : Option Fault) (q : Listing) (g : Query) → (o ≡ None → length (firsts (occurrences c.term)) ≤ MOST_VARIABLES) → query_of names p cs o ≡ Ok (q, g) → g.fresh ≤ MOST_VARIABLES
  unfolding fresh_of
  fresh_by None q g few e =
      let same = ap fresh_of e in
      let l = firsts_fewer (call_variables cs) (occurrences c.term) ((goals_of names (occurrences c.term) c.term).among (all_self (occurrences c.term))) in
      let k = few refl in
      omega (arith, same, l, k)
  fresh_by (Some f) q g few e = cc

pub query_preds : (names : List (List ℕ)) (p q : Listing) (c : Clause) (g : Query) → nodes c.term ≤ 2097152 → query_form names p c ≡ Ok (q, g) → length q.preds ≤ length p.preds + 2097152
query_preds names p q c g le e =
    let l = preds_by names p c (first_of (query_fault (query_goals names c.term)) (variables_fault (place c.term) (occurrences c.term))) q g e in
    let k = (goals_of names [] c.term).few in
    omega (arith, l, k, le)

pub query_variables : (names : List (List ℕ)) (p q : Listing) (c : Clause) (g : Query) → query_form names p c ≡ Ok (q, g) → g.fresh ≤ MOST_VARIABLES
query_variables names p q c g e =
    let fault = variables_fault (place c.term) (occurrences c.term) in
    fresh_by names p c (first_of (query_fault (query_goals names c.term)) fault) q g
    (λ none. few_variables (place c.term) (occurrences c.term) (none_first (query_fault (query_goals names c.term)) fault none)) e
