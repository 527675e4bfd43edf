use Rattle.std.proofs.Common.{ℕ, ◌<◌}
use Rattle.std.specs.Prelude.{◌≤ℤ◌, ◌*ℤ◌}
use Rattle.exact128.specs.Sums.{entry}
use Rattle.redundant_rows.proofs.multiple.is_at_least.Given as goal

abbrev pub invariant-loop-k : goal.invariant-loop-k
invariant-loop-k l = (j : ℕ) → j < l.k → (l.ratio.num *ℤ entry l.other.coeffs j) ≤ℤ (l.ratio.den *ℤ entry l.row.coeffs j)
