use Rattle.std.proofs.Common.{◌≡◌, pos, ◌∷◌, drop}
use Rattle.linear_rows.specs.Solving.{sums_fit}
use Rattle.linear_rows.specs.Plain.{plain_row}
use Rattle.fourier.proofs.checking.value_fits.Given as goal

abbrev pub invariant-loop-k : goal.invariant-loop-k
invariant-loop-k l = sums_fit l.sum (drop l.k l.row.coeffs) (drop l.k l.w) ≡ sums_fit (pos 0) (plain_row l.row) (l.t ∷ l.w)
