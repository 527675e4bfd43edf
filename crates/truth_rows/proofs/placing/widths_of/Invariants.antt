use Rattle.std.proofs.Common.{◌≡◌, length}
use Rattle.truth_rows.proofs.placing.widths_of.Given as goal

abbrev pub invariant-loop-place : goal.invariant-loop-place
invariant-loop-place g l = length l.widths ≡ 12
