use Rattle.std.proofs.Common.{◌≡◌, ◌∙◌, ◌+◌, ◌++◌, ◌∷◌, ℕ, List, map, drop, sym, ap, arith, append_assoc}
use Rattle.std.proofs.lemmas.List.{at_drop_more}
use Rattle.clause_normal.specs.declared.goal.Goal.{Goal as CodeGoal}
use Rattle.clause_normal.specs.Bodies.{Goals, goals_row, more_goals}
use Rattle.clause_normal.specs.OutlineViews.{goal_of}
use Rattle.clause_normal.specs.Rules.{Call, calls, call_at, choices}
use Rattle.clause_normal.specs.RuleViews.{call_of}
use Rattle.clause_normal.proofs.level.level_of.Goals as goal

pub goals-preserved : goal.goals-preserved
goals-preserved c =
    let goals = c.args.goals.now in
    let i = c.goals.goal-index in
    let g = c.goal-item.result in
    let inv = c.goals.invariant in
    let add = c.in_ok-add.ensures in
    let old = c.goals.level in
    let new = c.add.new.self in
    let row : List CodeGoal → Goals = λ gs. goals_row (map goal_of gs) in
    let rest : Goals = row (drop (i + 1) goals) in
    let left : row (drop i goals) ≡ more_goals (goal_of g) rest = at_drop_more row goals i g c.goals-test.true ∙ ap (λ (h : CodeGoal). row (h ∷ drop (i + 1) goals)) (sym c.goal-item.is) in
    record {
      calls =
          ap (λ (xs : List Call). xs ++ calls new.next rest) add.calls
          ∙ append_assoc (map call_of old.calls.items) (call_at old.next (goal_of g)) (calls new.next rest)
          ∙ ap (λ (n : ℕ). map call_of old.calls.items ++ (call_at old.next (goal_of g) ++ calls n rest)) add.next
          ∙ ap (λ (gs : Goals). map call_of old.calls.items ++ calls old.next gs) (sym left)
          ∙ inv.calls;
      next = omega (arith, inv.next, add.next, ap choices left);
    }
