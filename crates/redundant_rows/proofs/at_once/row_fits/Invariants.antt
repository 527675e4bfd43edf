use Rattle.std.proofs.Common.{◌≡◌, ℕ, ◌<◌, true}
use Rattle.exact128.specs.Fits.{fits}
use Rattle.exact128.specs.Sums.{entry}
use Rattle.redundant_rows.proofs.at_once.row_fits.Given as goal

abbrev pub invariant-loop-k : goal.invariant-loop-k
invariant-loop-k l = (j : ℕ) → j < l.k → fits (entry l.row.coeffs j) ≡ true
