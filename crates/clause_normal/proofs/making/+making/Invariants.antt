use Rattle.std.proofs.Common.{◌≡◌, ◌≤◌, ◌+◌, ◌++◌, List, length, map, drop, suc}
use Rattle.std.specs.List.{AllByRecursion}
use Rattle.clause_normal.specs.declared.goal.Goal.{Goal as CodeGoal}
use Rattle.clause_normal.specs.declared.outline.Outline.{Outline as CodeOutline}
use Rattle.clause_normal.specs.Bodies.{Branches, Goals, goals_row}
use Rattle.clause_normal.specs.NormalForm.{goals_fault, branches_fault}
use Rattle.clause_normal.specs.OutlineViews.{goal_of, branches_in, outline_goals, GoalIsBelow, OutlinesAreBelow}
use Rattle.clause_normal.specs.Rules.{below, branch_rules, choice_call, choices, inner, within}
use Rattle.clause_normal.specs.RuleViews.{rule_of}
use Rattle.clause_variables.specs.Occurring.{HasSize}
use Rattle.clause_normal.proofs.FitLemmas.{goals_work, goal_work, branches_work}
use Rattle.clause_normal.proofs.making.+making.Given as goal

abbrev pub decreases-add_rules : goal.decreases-add_rules
decreases-add_rules l = suc (goals_work (outline_goals l.body.now l.args.now))

abbrev pub decreases-add_below : goal.decreases-add_below
decreases-add_below l = goals_work (goals_row (map goal_of l.goals.now))

abbrev pub decreases-add_goal : goal.decreases-add_goal
decreases-add_goal l = goal_work (goal_of l.goal.now)

abbrev pub decreases-add_branches : goal.decreases-add_branches
decreases-add_branches l = branches_work (branches_in l.branches.now l.args.now)

abbrev pub invariant-add_below-goals : goal.invariant-add_below-goals
invariant-add_below-goals l =
    let vars = length l.fn.places.firsts.items in
    let row : List CodeGoal → Goals = λ gs. goals_row (map goal_of gs) in
    let left = drop l.goal-index l.goals in
    record {
      fault : goals_fault (row left) ≡ goals_fault (row l.goals);
      made : map rule_of l.made.items ++ below l.number l.after (row left) ≡ map rule_of l.fn.made.items ++ below l.first l.next (row l.goals);
      after : l.after + inner (row left) ≡ l.next + inner (row l.goals);
      number : l.number + choices (row left) ≡ l.first + choices (row l.goals);
      rest : AllByRecursion (GoalIsBelow vars) left;
      size : HasSize vars l.places;
      smaller : goals_work (row left) ≤ goals_work (row l.goals);
    }

abbrev pub invariant-add_branches-branches : goal.invariant-add_branches-branches
invariant-add_branches-branches l =
    let vars = length l.fn.places.firsts.items in
    let head = choice_call l.number l.args in
    let row : List CodeOutline → Branches = λ os. branches_in os l.args in
    let left = drop l.branch-index l.branches in
    record {
      fault : branches_fault (row left) ≡ branches_fault (row l.branches);
      made : map rule_of l.made.items ++ branch_rules head l.after (row left) ≡ map rule_of l.fn.made.items ++ branch_rules head l.next (row l.branches);
      after : l.after + within (row left) ≡ l.next + within (row l.branches);
      rest : OutlinesAreBelow vars left;
      size : HasSize vars l.places;
      smaller : branches_work (row left) ≤ branches_work (row l.branches);
    }
