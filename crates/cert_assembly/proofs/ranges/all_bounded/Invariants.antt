use Rattle.std.proofs.Common.{◌≡◌, ◌<◌, ℕ, Some, slice_get}
use Rattle.cert_assembly.proofs.ranges.all_bounded.Given as goal

abbrev pub invariant-loop-item : goal.invariant-loop-item
invariant-loop-item g l = (i : ℕ) (x : g.row.T.Denot) → i < l.item-index → slice_get l.items i ≡ Some x → g.T.Bounded.is_below x
