use Rattle.std.proofs.Common.{ℕ, ◌<◌, pos}
use Rattle.std.specs.Prelude.{◌≤ℤ◌}
use Rattle.exact128.specs.Sums.{entry}
use Rattle.redundant_rows.proofs.multiple.is_natural.Given as goal

abbrev pub invariant-loop-k : goal.invariant-loop-k
invariant-loop-k l = (j : ℕ) → j < l.k → pos 0 ≤ℤ entry l.row.coeffs j
