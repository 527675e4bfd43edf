use Rattle.std.proofs.Common.{◌≡◌, ◌<◌, ℕ, ℤ, Some, slice_get}
use Rattle.cert_assembly.specs.Ranges.{IsBelow}
use Rattle.cert_assembly.proofs.ranges.are_bounded.Given as goal

abbrev pub invariant-loop-number : goal.invariant-loop-number
invariant-loop-number l = (i : ℕ) (x : ℤ) → i < l.number-index → slice_get l.numbers i ≡ Some x → IsBelow x
