use Rattle.std.proofs.Common.{◌≡◌, ◌<◌, ◌+◌, ℕ, [], ◌∷◌, length, slice_index_or}
use Rattle.exact128.specs.Fits.{Fits}
use Rattle.exact128.specs.Sums.{entry, dot}
use Rattle.termination_model.proofs.replacing.replaced.Given as goal

abbrev pub invariant-loop-x : goal.invariant-loop-x
invariant-loop-x l = record {
  count : length l.coeffs + 1 ≡ l.x;
  each : (i : ℕ) → i < l.x → entry (l.constant ∷ l.coeffs) i ≡ dot l.row (slice_index_or l.columns i []);
  fits : (i : ℕ) → i < l.x → Fits (dot l.row (slice_index_or l.columns i []));
}
