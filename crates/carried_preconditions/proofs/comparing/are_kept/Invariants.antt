use Rattle.std.proofs.Common.{◌≡◌, ◌<◌, ℕ, slice_get, Some}
use Rattle.cti_terms.specs.declared.predicates.PredId.{PredId}
use Rattle.carried_preconditions.specs.Same.{IsSameAs, input_values}
use Rattle.carried_preconditions.proofs.comparing.are_kept.Given as goal

abbrev pub invariant-loop-member : goal.invariant-loop-member
invariant-loop-member l = (j : ℕ) (a : PredId) → j < l.member-index → slice_get l.member-items j ≡ Some a
    → IsSameAs l.edit (input_values l.edit.before.now.preds l.table l.before) (input_values l.edit.after.now.preds l.table l.now) a.0
