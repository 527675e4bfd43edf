use Rattle.std.proofs.Common.{◌≡◌, ◌≤◌, ◌<◌, ◌++◌, ◌∷◌, [], ℕ, List, length, slice_get, Some}
use Rattle.bool_diagrams.specs.declared.diagram.Diagram.{Diagram}
use Rattle.cti_terms.specs.declared.predicates.PredId.{PredId}
use Rattle.precond_fixpoint.specs.Solving.{AreColumns, IsColumn}
use Rattle.precond_fixpoint.proofs.families.push_sets.Given as goal

-- the columns so far have a set more, and the others stay
abbrev pub invariant-loop-place : goal.invariant-loop-place
invariant-loop-place l =
    record {
      each : length l.columns ≡ length l.fn.columns;
      done : (families : List (List Diagram)) → AreColumns families l.members l.fn.columns → (j : ℕ) (a : PredId) (own : List Diagram) → j < l.place → slice_get l.members j ≡ Some a → slice_get l.columns j ≡ Some own
          → IsColumn (families ++ l.sets ∷ []) a.0 own;
      rest : (j : ℕ) → l.place ≤ j → slice_get l.columns j ≡ slice_get l.fn.columns j;
    }
