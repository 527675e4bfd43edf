use Rattle.std.proofs.Common.{◌≤◌}
use Rattle.redundant_rows.proofs.hints.Hints.leave.Given as goal

abbrev pub invariant-loop-place : goal.invariant-loop-place
invariant-loop-place l = l.left ≤ l.place
