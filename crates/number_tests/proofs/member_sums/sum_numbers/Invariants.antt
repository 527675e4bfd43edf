use Rattle.std.proofs.Common.{◌≡◌, ◌<◌, ℕ, length}
use Rattle.exact128.specs.Fits.{Fits}
use Rattle.exact128.specs.Sums.{entry}
use Rattle.termination_model.specs.sizes.Rows.{added}
use Rattle.number_tests.proofs.member_sums.sum_numbers.Given as goal

abbrev pub invariant-loop-i : goal.invariant-loop-i
invariant-loop-i l = record {
  long : length l.sums ≡ l.i;
  each : (k : ℕ) → k < l.i → entry l.sums k ≡ entry (added l.xs l.ys) k;
  fit : (k : ℕ) → k < l.i → Fits (entry (added l.xs l.ys) k);
}
