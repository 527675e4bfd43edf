-- Lemmas on the clauses of a body: how many disjunctions it has, and that its atoms have no more arguments than
-- predicates have.
use Rattle.std.proofs.Common.{◌≡◌, ℕ, suc, ◌+◌, ◌<◌, ◌≤◌, ◌||◌, Bool, true, false, IsTrue, nat_lt, if◌then◌else◌, List, [], ◌∷◌, ◌++◌, length, map, refl, sym, subst, arith}
use Rattle.std.specs.List.{AllByRecursion}
use Rattle.std.proofs.lemmas.Bool.{and_parts, ltb-true, ltb-false}
use Rattle.std.proofs.lemmas.List.{length-map}
use Rattle.cti_terms.specs.Tree.{Tree as Term, Variable}
use Rattle.prolog_grammar.specs.Placed.{Tree, tree, Shape, Var, Int, Fun, Trees, no_trees, more_trees}
use Rattle.prolog_reader.specs.Names.{name_text}
use Rattle.prolog_terms.specs.Clauses.{arity, nodes, shape_nodes, all_nodes, is_known, shape_known, all_known}
use Rattle.clause_normal.specs.declared.fault.NormKind.TheVariants as kind
use Rattle.clause_normal.specs.declared.rule.Call.{Call as CodeCall}
use Rattle.clause_normal.specs.declared.rule.Functor.{Functor as CodeFunctor}
use Rattle.clause_normal.specs.declared.rule.Functor.TheVariants as functor
use Rattle.clause_normal.specs.declared.rule.Rule.{Rule as CodeRule}
use Rattle.clause_normal.specs.declared.words.Connective.{Connective}
use Rattle.clause_normal.specs.declared.words.Connective.TheVariants as connective
use Rattle.clause_normal.specs.Words.{is_impure, is_choice_name, connective_of}
use Rattle.clause_variables.specs.Terms.{plain_list, occurrences}
use Rattle.clause_normal.specs.Bodies.{Goal, Goals, Branches, call, choice, bad, no_goals, more_goals, no_branches, more_branches, one_goal, joined, joined_branches, arguments, Body, of_goals, named_goal, atom_goal, disjunction, named_body, body_of, shape_body, argument_bodies}
use Rattle.clause_normal.specs.Rules.{Functor, named, chosen, Call, Rule, choice_call, choices_at, choices, inner, inner_at, within, call_at, calls, below, below_at, branch_rules, rules}
use Rattle.clause_normal.specs.RuleViews.{functor_of, call_of, rule_of, FunctorIsFit, CallIsFit, RuleIsFit}
use Rattle.clause_variables.proofs.ListLemmas.{all_append}

abbrev mutual
  -- how much there is to do for goals
  pub goals_work : Goals → ℕ
  goals_work no_goals = 1
  goals_work (more_goals g gs) = suc (goal_work g + goals_work gs)

  pub goal_work : Goal → ℕ
  goal_work (call f ts) = 1
  goal_work (choice args bs) = suc (branches_work bs)
  goal_work (bad kind at) = 1

  pub branches_work : Branches → ℕ
  branches_work no_branches = 1
  branches_work (more_branches b bs) = suc (suc (goals_work b + branches_work bs))

-- there is always something to do
pub some_work : (bs : Branches) → 1 ≤ branches_work bs
some_work no_branches = omega arith
some_work (more_branches b bs) = omega arith

pub some_goals : (gs : Goals) → 1 ≤ goals_work gs
some_goals no_goals = omega arith
some_goals (more_goals g gs) = omega arith

-- the code's clauses are fit where the plain ones are, and the other way round
module _ (names : ℕ) where
  abbrev pub FitFunctor : Functor → Type 0
  FitFunctor (named f) = f < names
  FitFunctor (chosen m) = Unit {0}

  abbrev pub FitCall : Call → Type 0
  FitCall c = (length c.args ≤ 12) × FitFunctor c.functor

  pub record FitRule (r : Rule) : Type 0 where
    pub head : FitCall r.head
    pub body : AllByRecursion FitCall r.body

  functor_fit : (f : CodeFunctor) → FitFunctor (functor_of f) → FunctorIsFit names f
  functor_fit (functor.Named f) h = h
  functor_fit (functor.Chosen m) h = tt

  fit_functor : (f : CodeFunctor) → FunctorIsFit names f → FitFunctor (functor_of f)
  fit_functor (functor.Named f) h = h
  fit_functor (functor.Chosen m) h = tt

  pub fit_call : (c : CodeCall) → CallIsFit names c → FitCall (call_of c)
  fit_call c h = (h.0, fit_functor c.functor h.1)

  call_fit : (c : CodeCall) → FitCall (call_of c) → CallIsFit names c
  call_fit c h = (h.0, functor_fit c.functor h.1)

  fit_calls : (cs : List CodeCall) → AllByRecursion (CallIsFit names) cs → AllByRecursion FitCall (map call_of cs)
  fit_calls [] h = tt
  fit_calls (c ∷ cs) h = (fit_call c h.0, fit_calls cs h.1)

  calls_fit : (cs : List CodeCall) → AllByRecursion FitCall (map call_of cs) → AllByRecursion (CallIsFit names) cs
  calls_fit [] h = tt
  calls_fit (c ∷ cs) h = (call_fit c h.0, calls_fit cs h.1)

  fit_rules : (rs : List CodeRule) → AllByRecursion (RuleIsFit names) rs → AllByRecursion FitRule (map rule_of rs)
  fit_rules [] h = tt
  fit_rules (r ∷ rs) h = (record { head = fit_call r.head h.0.head; body = fit_calls r.body.items h.0.body }, fit_rules rs h.1)

  rules_fit : (rs : List CodeRule) → AllByRecursion FitRule (map rule_of rs) → AllByRecursion (RuleIsFit names) rs
  rules_fit [] h = tt
  rules_fit (r ∷ rs) h = (record { head = call_fit r.head h.0.head; body = calls_fit r.body.items h.0.body }, rules_fit rs h.1)

  -- goals whose atoms are fit
  abbrev mutual
    pub FitGoals : Goals → Type 0
    FitGoals no_goals = Unit {0}
    FitGoals (more_goals g gs) = FitGoal g × FitGoals gs

    pub FitGoal : Goal → Type 0
    FitGoal (call f ts) = (f < names) × (length ts ≤ 12)
    FitGoal (choice args bs) = (length args ≤ 12) × FitBranches bs
    FitGoal (bad kind at) = Unit {0}

    pub FitBranches : Branches → Type 0
    FitBranches no_branches = Unit {0}
    FitBranches (more_branches b bs) = FitGoals b × FitBranches bs

  choice_call_fit : (m : ℕ) (args : List ℕ) → length args ≤ 12 → FitCall (choice_call m args)
  choice_call_fit m args h = (omega (arith, length-map args Variable, h), tt)

  call_at_fit : (m : ℕ) (g : Goal) → FitGoal g → AllByRecursion FitCall (call_at m g)
  call_at_fit m (call f ts) h = ((h.1, h.0), tt)
  call_at_fit m (choice args bs) h = (choice_call_fit m args h.0, tt)
  call_at_fit m (bad kind at) h = tt

  goals_calls_fit : (m : ℕ) (gs : Goals) → FitGoals gs → AllByRecursion FitCall (calls m gs)
  goals_calls_fit m no_goals h = tt
  goals_calls_fit m (more_goals g gs) h = all_append FitCall (call_at m g) (calls (m + choices_at g) gs) (call_at_fit m g h.0) (goals_calls_fit (m + choices_at g) gs h.1)

  mutual
    below_fit : (m n : ℕ) (gs : Goals) → FitGoals gs → AllByRecursion FitRule (below m n gs)
    below_fit m n no_goals h = tt
    below_fit m n (more_goals g gs) h =
        all_append FitRule (below_at m n g) (below (m + choices_at g) (n + inner_at g) gs) (below_at_fit m n g h.0) (below_fit (m + choices_at g) (n + inner_at g) gs h.1)

    below_at_fit : (m n : ℕ) (g : Goal) → FitGoal g → AllByRecursion FitRule (below_at m n g)
    below_at_fit m n (call f ts) h = tt
    below_at_fit m n (choice args bs) h = branches_fit (choice_call m args) n bs (choice_call_fit m args h.0) h.1
    below_at_fit m n (bad kind at) h = tt

    branches_fit : (head : Call) (n : ℕ) (bs : Branches) → FitCall head → FitBranches bs → AllByRecursion FitRule (branch_rules head n bs)
    branches_fit head n no_branches k h = tt
    branches_fit head n (more_branches b bs) k h =
        all_append FitRule (record { head = head; body = calls n b } ∷ below n (n + choices b) b) (branch_rules head (n + (choices b + inner b)) bs)
        (record { head = k; body = goals_calls_fit n b h.0 }, below_fit n (n + choices b) b h.0) (branches_fit head (n + (choices b + inner b)) bs k h.1)

  -- the clauses of a head and goals after others
  pub made_fit : (old new : List CodeRule) (n : ℕ) (head : CodeCall) (gs : Goals) → map rule_of new ≡ map rule_of old ++ rules n (call_of head) gs → CallIsFit names head → FitGoals gs
      → AllByRecursion (RuleIsFit names) old → AllByRecursion (RuleIsFit names) new
  made_fit old new n head gs e k h all =
      let A : List Rule → Type 0 = λ rs. AllByRecursion FitRule rs in
      rules_fit new (subst A (sym e) (all_append FitRule (map rule_of old) (rules n (call_of head) gs) (fit_rules old all)
      (record { head = fit_call head k; body = goals_calls_fit n gs h }, below_fit n (n + choices gs) gs h)))

  -- goals of terms
  if_fit : (b : Bool) (g h : Goal) → (b ≡ true → FitGoal g) → (b ≡ false → FitGoal h) → FitGoal (if b then g else h)
  if_fit true g h k l = k refl
  if_fit false g h k l = l refl

  joined_fit : (gs hs : Goals) → FitGoals gs → FitGoals hs → FitGoals (joined gs hs)
  joined_fit no_goals hs h k = k
  joined_fit (more_goals g gs) hs h k = (h.0, joined_fit gs hs h.1 k)

  joined_branches_fit : (bs cs : Branches) → FitBranches bs → FitBranches cs → FitBranches (joined_branches bs cs)
  joined_branches_fit no_branches cs h k = k
  joined_branches_fit (more_branches b bs) cs h k = (h.0, joined_branches_fit bs cs h.1 k)

  few : (n : ℕ) → nat_lt 12 n ≡ false → n ≤ 12
  few n h = omega (arith, ltb-false 12 n h)

  named_goal_fit : (text : List ℕ) (f : ℕ) (args : List Term) (at : ℕ) → f < names → FitGoal (named_goal text f args at)
  named_goal_fit text f args at known =
      if_fit (is_impure text (length args) || is_choice_name text) (bad kind.NotPure at) (if nat_lt 12 (length args) then bad kind.Arity at else call f args) (λ e. tt)
      (λ e. if_fit (nat_lt 12 (length args)) (bad kind.Arity at) (call f args) (λ e. tt) (λ e. (known, few (length args) e)))

-- the number of disjunctions of goals that are joined
joined_few : (gs hs : Goals) → choices (joined gs hs) + inner (joined gs hs) ≡ (choices gs + inner gs) + (choices hs + inner hs)
joined_few no_goals hs = omega arith
joined_few (more_goals g gs) hs = omega (arith, joined_few gs hs)

joined_within : (bs cs : Branches) → within (joined_branches bs cs) ≡ within bs + within cs
joined_within no_branches cs = omega arith
joined_within (more_branches b bs) cs = omega (arith, joined_within bs cs)

-- a body with no more disjunctions than this, whose atoms are fit
module _ (names : List (List ℕ)) where
  abbrev known : ℕ
  known = length names

  pub record BodyFit (size : ℕ) (b : Body) : Type 0 where
    pub goals : (all : List ℕ) → FitGoals known (b.goals all)
    pub branches : (args : List ℕ) → FitBranches known (b.branches args)
    pub few_goals : (all : List ℕ) → choices (b.goals all) + inner (b.goals all) ≤ size
    pub few_branches : (args : List ℕ) → within (b.branches args) ≤ size

  of_goals_fit : (size : ℕ) (t : Tree) (goals : List ℕ → Goals) → ((all : List ℕ) → FitGoals known (goals all)) → ((all : List ℕ) → choices (goals all) + inner (goals all) ≤ size) → BodyFit size (of_goals t goals)
  of_goals_fit size t goals h k = record {
    goals = h;
    branches = λ args. (h (args ++ occurrences t), tt);
    few_goals = k;
    few_branches = λ args. omega (arith, k (args ++ occurrences t));
  }

  -- a goal that is not a disjunction
  abbrev IsPlain : Goal → Type 0
  IsPlain g = FitGoal known g × (choices_at g + inner_at g ≡ 0)

  if_plain : (b : Bool) (g h : Goal) → choices_at g + inner_at g ≡ 0 → choices_at h + inner_at h ≡ 0 → choices_at (if b then g else h) + inner_at (if b then g else h) ≡ 0
  if_plain true g h k l = k
  if_plain false g h k l = l

  named_plain : (text : List ℕ) (f : ℕ) (args : List Term) (at : ℕ) → f < known → IsPlain (named_goal text f args at)
  named_plain text f args at h = (
    named_goal_fit known text f args at h,
    if_plain (is_impure text (length args) || is_choice_name text) (bad kind.NotPure at) (if nat_lt 12 (length args) then bad kind.Arity at else call f args) refl
        (if_plain (nat_lt 12 (length args)) (bad kind.Arity at) (call f args) refl refl),
  )

  atom_plain : (t : Tree) → IsTrue (is_known known t) → IsPlain (atom_goal names t)
  atom_plain (tree at (Var x)) h = (tt, refl)
  atom_plain (tree at (Int n)) h = (tt, refl)
  atom_plain (tree at (Fun f ts)) h = named_plain (name_text names f) f (plain_list ts) at (ltb-true f known (and_parts (nat_lt f known) (all_known known ts) h).0)

  atom_body_fit : (size : ℕ) (t : Tree) → IsTrue (is_known known t) → BodyFit size (of_goals t (λ all. one_goal (atom_goal names t)))
  atom_body_fit size t h = let p = atom_plain t h in of_goals_fit size t (λ all. one_goal (atom_goal names t)) (λ all. (p.0, tt)) (λ all. omega (arith, p.1))

  -- a disjunction
  choice_few : (b : Bool) (at : ℕ) (args : List ℕ) (bs : Branches) → let g = if b then bad kind.Arity at else choice args bs in choices_at g + inner_at g ≤ 1 + within bs
  choice_few true at args bs = omega arith
  choice_few false at args bs = omega arith

  disjunction_fit : (size k l : ℕ) (t : Tree) (at : ℕ) (b c : Body) → suc (k + l) ≤ size → BodyFit k b → BodyFit l c → BodyFit size (disjunction t at b c)
  disjunction_fit size k l t at b c le h i =
      let branches : List ℕ → Branches = λ args. joined_branches (b.branches args) (c.branches args) in
      let fit : (args : List ℕ) → FitBranches known (branches args) = λ args. joined_branches_fit known (b.branches args) (c.branches args) (h.branches args) (i.branches args) in
      let most : (args : List ℕ) → within (branches args) ≤ k + l = λ args. omega (arith, joined_within (b.branches args) (c.branches args), h.few_branches args, i.few_branches args) in
      let args : List ℕ → List ℕ = λ all. arguments all (occurrences t) in
      record {
        goals = λ all. (if_fit known (nat_lt 12 (length (args all))) (bad kind.Arity at) (choice (args all) (branches (args all))) (λ e. tt) (λ e. (few known (length (args all)) e, fit (args all))), tt);
        branches = fit;
        few_goals = λ all. omega (arith, choice_few (nat_lt 12 (length (args all))) at (args all) (branches (args all)), most (args all), le);
        few_branches = λ xs. omega (arith, most xs, le);
      }

  -- bodies with no more disjunctions together
  abbrev BodiesFit : List Body → ℕ → Type 0
  BodiesFit [] size = Unit {0}
  BodiesFit (b ∷ bs) size = (k : ℕ) × (l : ℕ) × (k + l ≤ size) × BodyFit k b × BodiesFit bs l

  more_body : (k size : ℕ) (b : Body) → k ≤ size → BodyFit k b → BodyFit size b
  more_body k size b le h = record { goals = h.goals; branches = h.branches; few_goals = λ all. omega (arith, h.few_goals all, le); few_branches = λ args. omega (arith, h.few_branches args, le) }

  named_body_fit : (size : ℕ) (t : Tree) (at : ℕ) (c : Connective) (bs : List Body) → IsTrue (is_known known t) → BodiesFit bs size → BodyFit (suc size) (named_body names t at c bs)
  named_body_fit size t at connective.And (b ∷ d ∷ []) h (k, l, le, p, (m, n, le', q, tt)) =
      of_goals_fit (suc size) t (λ xs. joined (b.goals xs) (d.goals xs)) (λ xs. joined_fit known (b.goals xs) (d.goals xs) (p.goals xs) (q.goals xs))
      (λ xs. omega (arith, joined_few (b.goals xs) (d.goals xs), p.few_goals xs, q.few_goals xs, le, le'))
  named_body_fit size t at connective.Or (b ∷ d ∷ []) h (k, l, le, p, (m, n, le', q, tt)) = disjunction_fit (suc size) k m t at b d (omega (arith, le, le')) p q
  named_body_fit size t at connective.Truth bs h all = of_goals_fit (suc size) t (λ xs. no_goals) (λ xs. tt) (λ xs. omega arith)
  named_body_fit size t at c bs h all = atom_body_fit (suc size) t h

  mutual
    pub body_fit : (t : Tree) → IsTrue (is_known known t) → BodyFit (nodes t) (body_of names t)
    body_fit (tree at s) h = shape_body_fit at s h

    shape_body_fit : (at : ℕ) (s : Shape) → IsTrue (shape_known known s) → BodyFit (shape_nodes s) (shape_body names at s)
    shape_body_fit at (Var x) h = atom_body_fit 1 (tree at (Var x)) h
    shape_body_fit at (Int n) h = atom_body_fit 1 (tree at (Int n)) h
    shape_body_fit at (Fun f ts) h =
        named_body_fit (all_nodes ts) (tree at (Fun f ts)) at (connective_of (name_text names f) (arity ts)) (argument_bodies names ts) h (argument_bodies_fit ts (and_parts (nat_lt f known) (all_known known ts) h).1)

    argument_bodies_fit : (ts : Trees) → IsTrue (all_known known ts) → BodiesFit (argument_bodies names ts) (all_nodes ts)
    argument_bodies_fit no_trees h = tt
    argument_bodies_fit (more_trees t ts) h =
        let p = and_parts (is_known known t) (all_known known ts) h in
        (nodes t, all_nodes ts, omega arith, body_fit t p.0, argument_bodies_fit ts p.1)
