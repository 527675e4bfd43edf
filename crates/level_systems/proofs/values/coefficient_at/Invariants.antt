use Rattle.std.proofs.Common.{◌≡◌, ◌<◌, ℕ, slice_get, Some}
use Rattle.level_systems.specs.declared.position.Position.{Position}
use Rattle.level_systems.proofs.values.coefficient_at.Given as goal

abbrev pub invariant-loop-i : goal.invariant-loop-i
invariant-loop-i l = (j : ℕ) → j < l.i → (x : Position) → slice_get l.positions j ≡ Some x → x.pred.0 ≡ l.pred.0 → x.argument ≡ l.argument → ⊥
