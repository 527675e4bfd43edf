use Rattle.std.proofs.Common.{◌≡◌, ◌<◌, ◌&&◌, ℕ, nat_lt, false, List, length, slice_get, Some}
use Rattle.termination_model.specs.grounds.Modes.{is_part}
use Rattle.precond_fixpoint.proofs.modes.has_less.Given as goal

-- none of the lists so far is a shorter part
abbrev pub invariant-loop-less : goal.invariant-loop-less
invariant-loop-less l = (i : ℕ) (less : List ℕ) → i < l.less-index → slice_get l.lists i ≡ Some less → (nat_lt (length less) (length l.args) && is_part less l.args) ≡ false
