use Rattle.std.proofs.Common.{◌≤◌}
use Rattle.truth_rows.proofs.placing.is_placed_early.Given as goal

abbrev pub invariant-loop-other : goal.invariant-loop-other
invariant-loop-other l = l.wider ≤ l.other
