use Rattle.std.proofs.Common.{◌≡◌, ◌<◌, ℕ, slice_get, Some}
use Rattle.bool_diagrams.specs.Rows.{Keeps}
use Rattle.cti_terms.specs.declared.predicates.PredId.{PredId}
use Rattle.number_tests.specs.Levels.{coefficients_of}
use Rattle.precond_fixpoint.specs.Removing.{IsCovering}
use Rattle.truth_rows.specs.Sets.{AreSets, family_of}
use Rattle.precond_fixpoint.proofs.covering.put_covering.Given as goal

-- the members so far
abbrev pub invariant-loop-member : goal.invariant-loop-member
invariant-loop-member l =
    record {
      keeps : Keeps l.fn.table l.table;
      sets : AreSets l.p.preds l.table l.sets;
      covering : (j : ℕ) (a : PredId) → j < l.member-index → slice_get l.members j ≡ Some a → IsCovering l.p.preds (coefficients_of l.levels l.m) (family_of l.p.preds l.table l.sets) a.0;
    }
