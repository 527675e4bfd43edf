use Rattle.std.proofs.Common.{◌≡◌, take}
use Rattle.linear_rows.proofs.multipliers.copied_multipliers.Given as goal

abbrev pub invariant-loop-by : goal.invariant-loop-by
invariant-loop-by l = l.copy ≡ take l.by-index l.list
