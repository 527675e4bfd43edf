use Rattle.std.proofs.Common.{◌≡◌, ◌<◌, ℕ, slice_get, Some}
use Rattle.level_systems.specs.declared.position.Position.{Position}
use Rattle.carried_mappings.specs.Order.{AreNamesakes}
use Rattle.carried_mappings.proofs.places.number_before.Given as goal

abbrev pub invariant-loop-i : goal.invariant-loop-i
invariant-loop-i l =
    (k : ℕ) (x : Position) → k < l.i → slice_get l.before k ≡ Some x → AreNamesakes l.edit x.pred.0 l.position.pred.0 × (x.argument ≡ l.position.argument) → ⊥
