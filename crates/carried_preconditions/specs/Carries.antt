-- Private.
-- The greatest preconditions of a component, from before an edit to after it.
--
-- To believe: nothing of this file; a law's statement is checked by its use.
use Rattle.std.specs.Prelude.{ℕ, Bool, List, slice_get}
use Rattle.bool_diagrams.specs.Tree.{Tree as Rows}
use Rattle.bool_diagrams.specs.declared.diagram.Diagram.{Diagram}
use Rattle.cti_terms.specs.Listing.{IsProgram}
use Rattle.cti_terms.specs.Tree.{Tree}
use Rattle.number_tests.specs.declared.level_part.LevelPart.{LevelPart}
use Rattle.precond_fixpoint.specs.Solving.{IsSolved, allowed_family}
use Rattle.termination_model.specs.grounds.Grounds.{Family}
use Rattle.solved_program.specs.Kept.{IsEdit}
use Rattle.solved_program.specs.Standing.{KeepOwn, StandsFor}
use Rattle.solved_program.specs.declared.edit.Edit.{Edit}
use Rattle.carried_preconditions.specs.Same.{coefficient_lists, paired}

-- A component that stands for an old one, by ground rows and by what is allowed, and whose members have the ground
-- rows, the coefficients and the sets that they had, has its greatest preconditions.
abbrev pub SolvedCarriesOver : Type 0
SolvedCarriesOver = (truth : (ℕ → Bool) → Tree → Bool) (e : Edit) (b c : ℕ) (trees : List Rows) (old_grounds grounds : Family) (old_levels levels : List (List LevelPart)) (old_sets sets : List (List Diagram))
    → IsProgram e.before.now → IsProgram e.after.now → IsEdit e
    → StandsFor e.components_before.now e.components.now b c (paired old_grounds (allowed_family e.before.now.preds trees old_sets)) (paired grounds (allowed_family e.after.now.preds trees sets)) e.before.now e.after.now e.kept.now
    → KeepOwn e c old_grounds grounds → KeepOwn e c (coefficient_lists old_levels) (coefficient_lists levels) → KeepOwn e c (slice_get old_sets) (slice_get sets)
    → IsSolved truth e.before.now e.components_before.now old_grounds old_levels trees old_sets b
    → IsSolved truth e.after.now e.components.now grounds levels trees sets c
