use Rattle.std.proofs.Common.{◌≡◌, ◌<◌, ℕ, slice_get, Some}
use Rattle.cti_terms.specs.declared.predicates.PredId.{PredId}
use Rattle.carried_mappings.specs.Order.{AreNamesakes}
use Rattle.carried_mappings.proofs.places.place_before.Given as goal

abbrev pub invariant-loop-j : goal.invariant-loop-j
invariant-loop-j l = (k : ℕ) (q : PredId) → k < l.j → slice_get l.before k ≡ Some q → AreNamesakes l.edit q.0 l.member.0 → ⊥
