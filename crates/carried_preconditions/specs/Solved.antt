-- Private.
-- The greatest preconditions of a program by component, what they are solved from, and which of them an edit keeps.
--
-- To believe: `AreInputs`, `ArePreconditions`, `KeepPreconditions`, and what is solved, which precond_fixpoint defines.
use Rattle.std.specs.Prelude.{ℕ, ◌<◌, Bool, List, length, slice_get}
use Rattle.bool_diagrams.specs.Tree.{Tree as Rows}
use Rattle.bool_diagrams.specs.declared.diagram.Diagram.{Diagram}
use Rattle.call_components.specs.Partition.{Partition}
use Rattle.cti_terms.specs.Listing.{Listing}
use Rattle.cti_terms.specs.Tree.{Tree}
use Rattle.cti_terms.specs.declared.predicates.Pred.{Pred}
use Rattle.precond_fixpoint.specs.Solving.{AreLevels, AreMappingSets, AreUnions, IsSolved}
use Rattle.truth_rows.specs.Sets.{AreSets, family_of}
use Rattle.solved_program.specs.Standing.{KeepOwn, StandsFor}
use Rattle.solved_program.specs.declared.edit.Edit.{Edit}
use Rattle.carried_preconditions.specs.Same.{input_values, paired}
use Rattle.carried_preconditions.specs.declared.preconditions.Inputs.{Inputs}
use Rattle.carried_preconditions.specs.declared.preconditions.PreconditionsBefore.{PreconditionsBefore}
use Rattle.carried_preconditions.specs.declared.preconditions.SolvedPreconditions.{SolvedPreconditions}

-- ground rows and mappings for all predicates of a program
pub record AreInputs (p : Listing) (comps : Partition) (trees : List Rows) (inputs : Inputs) : Type 0 where
  pub grounds_are : AreSets p.preds trees inputs.grounds.now
  pub levels_are : AreLevels p comps inputs.levels.now

-- sets for all predicates and what they allow, and each component has the greatest ones
pub record ArePreconditions (truth : (ℕ → Bool) → Tree → Bool) (p : Listing) (comps : Partition) (trees : List Rows) (inputs : Inputs) (solved : SolvedPreconditions) : Type 0 where
  pub sets_are : AreMappingSets p.preds trees solved.sets
  pub allowed_are : AreUnions p.preds trees solved.sets solved.allowed
  pub greatest : (c : ℕ) → c < length comps.members
      → IsSolved truth p comps (family_of p.preds trees inputs.grounds.now) inputs.levels.now trees solved.sets c

-- for each predicate its ground rows, and what is allowed of it
abbrev pub rows_with : List Pred → List Rows → Inputs → List Diagram → ℕ → (List Bool → Bool) × (List Bool → Bool)
rows_with preds trees inputs allowed = paired (family_of preds trees inputs.grounds.now) (family_of preds trees allowed)

-- Of the components below n, each that stands for an old one, by ground rows and by what is allowed, and whose members
-- have the ground rows and the coefficients that they had, has the diagrams that it had.
abbrev pub KeepSetsTo : Edit → ℕ → List Rows → List Rows → PreconditionsBefore → Inputs → List (List Diagram) → List Diagram → Type 0
KeepSetsTo e n trees new_trees before inputs sets allowed = (b c : ℕ) → c < n
    → StandsFor e.components_before.now e.components.now b c (rows_with e.before.now.preds trees before.inputs before.solved.now.allowed) (rows_with e.after.now.preds new_trees inputs allowed)
    e.before.now e.after.now e.kept.now
    → KeepOwn e c (input_values e.before.now.preds trees before.inputs) (input_values e.after.now.preds new_trees inputs)
    → KeepOwn e c (slice_get before.solved.now.sets) (slice_get sets)

-- the same for all components
abbrev pub KeepPreconditions : Edit → List Rows → List Rows → PreconditionsBefore → Inputs → SolvedPreconditions → Type 0
KeepPreconditions e trees new_trees before inputs solved = KeepSetsTo e (length e.components.now.members) trees new_trees before inputs solved.sets solved.allowed
