use Rattle.std.proofs.Common.{◌≡◌, ◌≤◌, ◌<◌, ℕ, List, length, slice_get, Some}
use Rattle.bool_diagrams.specs.Rows.{Keeps}
use Rattle.bool_diagrams.specs.declared.diagram.Diagram.{Diagram}
use Rattle.cti_terms.specs.declared.predicates.PredId.{PredId}
use Rattle.number_tests.specs.Levels.{items_of}
use Rattle.precond_fixpoint.specs.Solving.{AreColumns, AreMappingSets, AreUnions, IsColumn}
use Rattle.precond_fixpoint.proofs.columns.put_members.Given as goal

-- what the members so far have
abbrev pub invariant-loop-place : goal.invariant-loop-place
invariant-loop-place l =
    record {
      keeps : Keeps l.fn.table l.table;
      sets : AreMappingSets l.p.preds l.table l.sets;
      allowed : AreUnions l.p.preds l.table l.sets l.allowed;
      own : (families : List (List Diagram)) → AreColumns families l.members l.fn.columns → (j : ℕ) (q : PredId) → j < l.place → slice_get l.members j ≡ Some q → IsColumn families q.0 (items_of l.sets q.0);
      each : length l.columns ≡ length l.fn.columns;
      rest : (j : ℕ) → l.place ≤ j → slice_get l.columns j ≡ slice_get l.fn.columns j;
      others : (q : ℕ) → ((j : ℕ) (a : PredId) → slice_get l.members j ≡ Some a → q ≡ a.0 → ⊥) → slice_get l.sets q ≡ slice_get l.fn.sets q;
    }
