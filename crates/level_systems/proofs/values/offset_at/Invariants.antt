use Rattle.std.proofs.Common.{◌≡◌, ◌<◌, ℕ, slice_get, Some}
use Rattle.cti_terms.specs.declared.predicates.PredId.{PredId}
use Rattle.level_systems.proofs.values.offset_at.Given as goal

abbrev pub invariant-loop-i : goal.invariant-loop-i
invariant-loop-i l = (j : ℕ) → j < l.i → (x : PredId) → slice_get l.members j ≡ Some x → x.0 ≡ l.pred.0 → ⊥
