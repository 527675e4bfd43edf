use Rattle.std.proofs.Common.{◌≡◌, ℕ, ◌<◌, ◌∷◌, [], pos, true, get_or}
use Rattle.linear_rows.specs.Solving.{sums_fit}
use Rattle.linear_rows.specs.Plain.{plain_rows}
use Rattle.fourier.proofs.checking.point_fits.Given as goal

abbrev pub invariant-loop-i : goal.invariant-loop-i
invariant-loop-i l = (j : ℕ) → j < l.i → sums_fit (pos 0) (get_or (plain_rows l.rows.list) j []) (l.t ∷ l.w) ≡ true
