use Rattle.std.proofs.Common.{◌≤◌}
use Rattle.truth_rows.proofs.placing.width_of.Given as goal

abbrev pub invariant-loop-x : goal.invariant-loop-x
invariant-loop-x g l = l.width ≤ l.x
