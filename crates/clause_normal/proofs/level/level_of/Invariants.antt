use Rattle.std.proofs.Common.{◌≡◌, ◌+◌, ◌++◌, List, map, drop}
use Rattle.clause_normal.specs.declared.goal.Goal.{Goal as CodeGoal}
use Rattle.clause_normal.specs.Bodies.{Goals, goals_row}
use Rattle.clause_normal.specs.OutlineViews.{goal_of}
use Rattle.clause_normal.specs.Rules.{calls, choices}
use Rattle.clause_normal.specs.RuleViews.{call_of}
use Rattle.clause_normal.proofs.level.level_of.Given as goal

abbrev pub invariant-goals : goal.invariant-goals
invariant-goals l =
    let row : List CodeGoal → Goals = λ gs. goals_row (map goal_of gs) in
    let left = drop l.goal-index l.goals in
    record {
      calls : map call_of l.level.calls.items ++ calls l.level.next (row left) ≡ calls l.first (row l.goals);
      next : l.level.next + choices (row left) ≡ l.first + choices (row l.goals);
    }
