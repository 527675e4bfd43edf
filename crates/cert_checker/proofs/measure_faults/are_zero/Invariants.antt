use Rattle.std.proofs.Common.{◌≡◌, ◌<◌, ℕ, ℤ, pos, slice_get, Some}
use Rattle.cert_checker.proofs.measure_faults.are_zero.Given as goal

abbrev pub invariant-loop-number : goal.invariant-loop-number
invariant-loop-number l = (i : ℕ) → i < l.number-index → (x : ℤ) → slice_get l.numbers i ≡ Some x → x ≡ pos 0
