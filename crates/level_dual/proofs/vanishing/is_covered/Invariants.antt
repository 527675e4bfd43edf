use Rattle.std.proofs.Common.{◌≡◌, ◌<◌, ℕ, Some, slice_get, true}
use Rattle.level_dual.proofs.vanishing.is_covered.Given as goal

abbrev pub invariant-loop-k : goal.invariant-loop-k
invariant-loop-k l = (i : ℕ) → i < l.k → slice_get l.few i ≡ Some true → slice_get l.marks i ≡ Some true
