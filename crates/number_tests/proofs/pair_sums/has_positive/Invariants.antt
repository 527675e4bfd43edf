use Rattle.std.proofs.Common.{◌≡◌, ◌<◌, ◌≤ℤ◌, ℕ, pos, slice_get, Some}
use Rattle.number_tests.specs.declared.pair_point.PairPoint.{PairPoint}
use Rattle.number_tests.proofs.pair_sums.has_positive.Given as goal

abbrev pub invariant-loop-x : goal.invariant-loop-x
invariant-loop-x l = (i : ℕ) → i < l.x-index → (x : PairPoint) → slice_get l.points i ≡ Some x → x.point.t ≤ℤ pos 0
