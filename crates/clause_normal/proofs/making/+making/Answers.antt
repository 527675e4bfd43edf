use Rattle.std.proofs.Common.{◌≡◌, ◌<◌, ◌∙◌, ◌+◌, ◌++◌, ◌∷◌, ℕ, List, Option, Some, length, map, drop, get_or, refl, sym, ap, subst, arith, append_assoc, append-nil}
use Rattle.std.specs.List.{AllByRecursion}
use Rattle.std.proofs.lemmas.List.{at_drop_more, drop_all}
use Rattle.clause_normal.specs.declared.goal.Goal.{Goal as CodeGoal}
use Rattle.clause_normal.specs.declared.outline.Outline.{Outline as CodeOutline}
use Rattle.clause_normal.specs.Bodies.{Branches, Goals, goals_row, more_goals, more_branches}
use Rattle.clause_normal.specs.NormalForm.{Fault, first_of, goals_fault, goal_fault, branches_fault}
use Rattle.clause_normal.specs.Outlines.{Outlines, OutlinesBelow, more_outlines, outlines_branches, outlines_row}
use Rattle.clause_normal.specs.OutlineViews.{goal_of, branches_in, outline_of, outline_goals, GoalIsBelow, OutlineIsBelow}
use Rattle.clause_normal.specs.Rules.{Call, Rule, below, below_at, branch_rules, choice_call, choices, choices_at, inner, rules, within}
use Rattle.clause_normal.specs.RuleViews.{rule_of}
use Rattle.clause_variables.specs.Occurring.{HasSize}
use Rattle.clause_normal.proofs.FitLemmas.{goals_work, branches_work}
use Rattle.clause_normal.proofs.QueryLemmas.{if_fault_map}
use Rattle.clause_normal.proofs.OutcomeLemmas.{made_err}
use Rattle.clause_normal.proofs.making.+making.Goals as goal

abbrev row : List CodeGoal → Goals
row gs = goals_row (map goal_of gs)

-- the goals that are left
goals_left : (gs : List CodeGoal) (i : ℕ) (g : CodeGoal) → i < length gs → g ≡ get_or gs i g → row (drop i gs) ≡ more_goals (goal_of g) (row (drop (i + 1) gs))
goals_left gs i g lt is = at_drop_more row gs i g lt ∙ ap (λ (h : CodeGoal). row (h ∷ drop (i + 1) gs)) (sym is)

goals_below : (vars : ℕ) (gs : List CodeGoal) (i : ℕ) (g : CodeGoal) → i < length gs → g ≡ get_or gs i g → AllByRecursion (GoalIsBelow vars) (drop i gs) → GoalIsBelow vars g × AllByRecursion (GoalIsBelow vars) (drop (i + 1) gs)
goals_below vars gs i g lt is h =
    let A : List CodeGoal → Type 0 = λ hs. AllByRecursion (GoalIsBelow vars) hs in
    subst A (at_drop_more (λ (hs : List CodeGoal). hs) gs i g lt ∙ ap (λ (k : CodeGoal). k ∷ drop (i + 1) gs) (sym is)) h

-- the branches that are left
outlines_left : (os : List CodeOutline) (i : ℕ) (o : CodeOutline) → i < length os → o ≡ get_or os i o → outlines_row (map outline_of (drop i os)) ≡ more_outlines (outline_of o) (outlines_row (map outline_of (drop (i + 1) os)))
outlines_left os i o lt is =
    let plain : List CodeOutline → Outlines = λ us. outlines_row (map outline_of us) in
    at_drop_more plain os i o lt ∙ ap (λ (u : CodeOutline). plain (u ∷ drop (i + 1) os)) (sym is)

pub add_below-goals-init : goal.add_below-goals-init
add_below-goals-init t c = record { fault = refl; made = refl; after = refl; number = refl; rest = c.requires.goals; size = c.requires.size; smaller = omega arith }

pub add_below-add_goal-requires : goal.add_below-add_goal-requires
add_below-add_goal-requires t c =
    let gs = c.args.goals.now in
    let i = c.goals.goal-index in
    let g = c.goal-item.result in
    let inv = c.goals.invariant in
    let left = goals_left gs i g c.goals-test.true c.goal-item.is in
    let vars_are = inv.size.firsts in
    let B : ℕ → Type 0 = λ n. GoalIsBelow n g in
    let N : ℕ → Type 0 = λ n. HasSize n c.goals.places in
    let b = goals_below (length c.args.places.now.firsts.items) gs i g c.goals-test.true c.goal-item.is inv.rest in (
      omega (arith, ap goals_work left, inv.smaller, c.decreases),
      (omega (arith, inv.after, ap inner left, c.requires.room), (subst B (sym vars_are) b.0, subst N (sym vars_are) inv.size)),
    )

pub add_below-returns-in_err-after-clause-made : goal.add_below-returns-in_err-after-clause-made
add_below-returns-in_err-after-clause-made t c =
    let gs = c.args.goals.now in
    let i = c.goals.goal-index in
    let g = c.goal-item.result in
    let left = goals_left gs i g c.goals-test.true c.goal-item.is in
    let rest = row (drop (i + 1) gs) in
    made_err _ _ _ _ c.from_residual.result c.in_err-after.field-0.0 c.from_residual.ensures
    (if_fault_map c.in_err-after.field-0.0 (λ f. goal_fault (goal_of g) ≡ Some f) (λ f. goals_fault (row gs) ≡ Some f)
    (λ f h. sym c.goals.invariant.fault ∙ ap goals_fault left ∙ ap (λ (o : Option Fault). first_of o (goals_fault rest)) h) c.in_err-after.ensures.made)

pub add_below-overflow_add-number : goal.add_below-overflow_add-number
add_below-overflow_add-number t c =
    let left = goals_left c.args.goals.now c.goals.goal-index c.goal-item.result c.goals-test.true c.goal-item.is in
    omega (arith, c.goals.invariant.number, ap choices left, c.choices-number.ensures, c.requires.numbers)

pub add_below-goals-preserved : goal.add_below-goals-preserved
add_below-goals-preserved t c =
    let gs = c.args.goals.now in
    let i = c.goals.goal-index in
    let g = c.goal-item.result in
    let inv = c.goals.invariant in
    let left = goals_left gs i g c.goals-test.true c.goal-item.is in
    let rest = row (drop (i + 1) gs) in
    let old = map rule_of c.goals.made.items in
    let n = c.goals.number in
    let a = c.goals.after in
    let h = goal_of g in
    let ok = c.in_ok-after.ensures.made in
    let number : n + c.choices-number.result ≡ n + choices_at h = ap (λ (k : ℕ). n + k) c.choices-number.ensures in
    let N : ℕ → Type 0 = λ n. HasSize n c.add_goal.new.places in
    record {
      fault = sym (ap goals_fault left ∙ ap (λ (o : Option Fault). first_of o (goals_fault rest)) ok.0) ∙ inv.fault;
      made =
          ap (λ (rs : List Rule). rs ++ below (n + c.choices-number.result) c.in_ok-after.after rest) ok.1
          ∙ append_assoc old (below_at n a h) (below (n + c.choices-number.result) c.in_ok-after.after rest)
          ∙ (λ j. old ++ (below_at n a h ++ below (number j) (ok.2 j) rest))
          ∙ ap (λ (hs : Goals). old ++ below n a hs) (sym left)
          ∙ inv.made;
      after = omega (arith, inv.after, ok.2, ap inner left);
      number = omega (arith, inv.number, c.choices-number.ensures, ap choices left);
      rest = (goals_below (length c.args.places.now.firsts.items) gs i g c.goals-test.true c.goal-item.is inv.rest).1;
      size = subst N inv.size.firsts c.in_ok-after.ensures.size;
      smaller = omega (arith, inv.smaller, ap goals_work left);
    }

pub add_below-returns-clause-size : goal.add_below-returns-clause-size
add_below-returns-clause-size t c = c.goals.invariant.size

pub add_below-returns-clause-made : goal.add_below-returns-clause-made
add_below-returns-clause-made t c =
    let inv = c.goals.invariant in
    let none = ap row (drop_all c.goals.goal-index c.args.goals.now c.goals-test.false) in
    let made = map rule_of c.goals.made.items in (
      sym inv.fault ∙ ap goals_fault none,
      sym (append-nil made) ∙ ap (λ (gs : Goals). made ++ below c.goals.number c.goals.after gs) (sym none) ∙ inv.made,
      omega (arith, inv.after, ap inner none),
    )

pub add_branches-branches-init : goal.add_branches-branches-init
add_branches-branches-init t c = record { fault = refl; made = refl; after = refl; rest = c.requires.branches; size = c.requires.size; smaller = omega arith }

pub add_branches-add_rules-requires : goal.add_branches-add_rules-requires
add_branches-add_rules-requires t c =
    let args = c.args.args.now in
    let os = c.args.branches.now in
    let i = c.branches.branch-index in
    let o = c.branch-item.result in
    let inv = c.branches.invariant in
    let plain = outlines_left os i o c.branches-test.true c.branch-item.is in
    let left : branches_in (drop i os) args ≡ more_branches (outline_goals o args) (branches_in (drop (i + 1) os) args) = ap (λ (us : Outlines). outlines_branches us args) plain in
    let vars = length c.args.places.now.firsts.items in
    let vars_are = sym inv.size.firsts in
    let A : ℕ → Type 0 = λ n. AllByRecursion (λ (x : ℕ). x < n) args in
    let B : ℕ → Type 0 = λ n. OutlineIsBelow n o in
    let N : ℕ → Type 0 = λ n. HasSize n c.branches.places in
    let b = subst (OutlinesBelow vars) plain inv.rest in (
      omega (arith, ap branches_work left, inv.smaller, c.decreases),
      (omega (arith, inv.after, ap within left, c.requires.room), (subst A vars_are c.requires.args, (subst B vars_are b.0, subst N vars_are inv.size))),
    )

pub add_branches-returns-in_err-after-clause-made : goal.add_branches-returns-in_err-after-clause-made
add_branches-returns-in_err-after-clause-made t c =
    let args = c.args.args.now in
    let os = c.args.branches.now in
    let i = c.branches.branch-index in
    let o = c.branch-item.result in
    let left : branches_in (drop i os) args ≡ more_branches (outline_goals o args) (branches_in (drop (i + 1) os) args) =
    ap (λ (us : Outlines). outlines_branches us args) (outlines_left os i o c.branches-test.true c.branch-item.is) in
    let rest = branches_in (drop (i + 1) os) args in
    made_err _ _ _ _ c.from_residual-in_err-after.result c.in_err-after.field-0.0 c.from_residual-in_err-after.ensures
    (if_fault_map c.in_err-after.field-0.0 (λ f. goals_fault (outline_goals o args) ≡ Some f) (λ f. branches_fault (branches_in os args) ≡ Some f)
    (λ f h. sym c.branches.invariant.fault ∙ ap branches_fault left ∙ ap (λ (u : Option Fault). first_of u (branches_fault rest)) h) c.in_err-after.ensures.made)

pub add_branches-branches-preserved : goal.add_branches-branches-preserved
add_branches-branches-preserved t c =
    let args = c.args.args.now in
    let os = c.args.branches.now in
    let i = c.branches.branch-index in
    let o = c.branch-item.result in
    let inv = c.branches.invariant in
    let plain = outlines_left os i o c.branches-test.true c.branch-item.is in
    let gs = outline_goals o args in
    let rest = branches_in (drop (i + 1) os) args in
    let left : branches_in (drop i os) args ≡ more_branches gs rest = ap (λ (us : Outlines). outlines_branches us args) plain in
    let old = map rule_of c.branches.made.items in
    let a = c.branches.after in
    let head = choice_call c.args.number args in
    let ok = c.in_ok-after.ensures.made in
    let N : ℕ → Type 0 = λ n. HasSize n c.add_rules.new.places in
    record {
      fault = sym (ap branches_fault left ∙ ap (λ (u : Option Fault). first_of u (branches_fault rest)) ok.0) ∙ inv.fault;
      made =
          ap (λ (rs : List Rule). rs ++ branch_rules head c.in_ok-after.after rest) (ok.1 ∙ ap (λ (k : Call). old ++ rules a k gs) c.in_ok-head.ensures)
          ∙ append_assoc old (rules a head gs) (branch_rules head c.in_ok-after.after rest)
          ∙ ap (λ (k : ℕ). old ++ (rules a head gs ++ branch_rules head k rest)) ok.2
          ∙ ap (λ (bs : Branches). old ++ branch_rules head a bs) (sym left)
          ∙ inv.made;
      after = omega (arith, inv.after, ok.2, ap within left);
      rest = (subst (OutlinesBelow (length c.args.places.now.firsts.items)) plain inv.rest).1;
      size = subst N inv.size.firsts c.in_ok-after.ensures.size;
      smaller = omega (arith, inv.smaller, ap branches_work left);
    }

pub add_branches-returns-clause-size : goal.add_branches-returns-clause-size
add_branches-returns-clause-size t c = c.branches.invariant.size

pub add_branches-returns-clause-made : goal.add_branches-returns-clause-made
add_branches-returns-clause-made t c =
    let inv = c.branches.invariant in
    let args = c.args.args.now in
    let none = ap (λ (os : List CodeOutline). branches_in os args) (drop_all c.branches.branch-index c.args.branches.now c.branches-test.false) in
    let made = map rule_of c.branches.made.items in
    let head = choice_call c.args.number args in (
      sym inv.fault ∙ ap branches_fault none,
      sym (append-nil made) ∙ ap (λ (bs : Branches). made ++ branch_rules head c.branches.after bs) (sym none) ∙ inv.made,
      omega (arith, inv.after, ap within none),
    )
