use Rattle.std.proofs.Common.{◌≡◌, ◌++◌}
use Rattle.termination_model.specs.lists.TurnSystem.{ones}
use Rattle.level_systems.proofs.turn_rows.add_ones.Given as goal

abbrev pub invariant-loop-place : goal.invariant-loop-place
invariant-loop-place l = l.row.items ≡ l.fn.row.items ++ ones l._place
