-- Private.
-- What sets of truth rows give to the parts of a certificate: ground rows, preconditions and modes.
--
-- Nothing here has to be believed.
use Rattle.std.specs.Prelude.{◌≡◌, ◌<◌, ℕ, Bool, List, length}
use Rattle.bool_diagrams.specs.Tree.{Tree as Rows}
use Rattle.bool_diagrams.specs.declared.diagram.Diagram.{Diagram}
use Rattle.call_components.specs.Partition.{Partition}
use Rattle.cert_structure.specs.declared.parts.Parts.{Parts}
use Rattle.cti_terms.specs.Listing.{Listing}
use Rattle.cti_terms.specs.Tree.{Tree}
use Rattle.number_tests.specs.declared.level_part.LevelPart.{LevelPart}
use Rattle.precond_fixpoint.specs.Solving.{AreLevels, AreMappingSets, AreModes, IsSolved, allowed_family}
use Rattle.precond_fixpoint.specs.declared.mode.Mode.{Mode}
use Rattle.termination_model.specs.grounds.Grounds.{IsLeast}
use Rattle.truth_rows.specs.Sets.{AreSets, family_of}
use Rattle.cert_assembly.specs.Spelled.{mode_lists, spelled_list, spelled_lists}

-- what the engines give of sets of truth rows
pub record SetsAreSolved (truth : (ℕ → Bool) → Tree → Bool) (p : Listing) (comps : Partition) (levels : List (List LevelPart)) (first last : List Rows) (grounds : List Diagram) (sets : List (List Diagram)) (lists : List (List Mode)) : Type 0 where
  pub ground_sets : AreSets p.preds first grounds
  pub least : IsLeast truth p (family_of p.preds first grounds)
  pub levels_are : AreLevels p comps levels
  pub mapping_sets : AreMappingSets p.preds last sets
  pub solved : (c : ℕ) → c < length comps.members → IsSolved truth p comps (family_of p.preds first grounds) levels last sets c
  pub modes_are : AreModes p.preds (allowed_family p.preds last sets) lists

-- the parts spell these sets
pub record PartsAreSpelled (p : Listing) (parts : Parts) (levels : List (List LevelPart)) (first last : List Rows) (grounds : List Diagram) (sets : List (List Diagram)) (lists : List (List Mode)) : Type 0 where
  pub levels_are : parts.levels ≡ levels
  pub grounds_are : parts.grounds ≡ spelled_list p.preds first grounds
  pub sets_are : parts.preconditions ≡ spelled_lists p.preds last sets
  pub modes_are : parts.modes ≡ mode_lists lists

-- the parts that sets of truth rows give, of tables that the engines made
pub record HaveSets (truth : (ℕ → Bool) → Tree → Bool) (p : Listing) (comps : Partition) (parts : Parts) : Type 0 where
  pub first : List Rows
  pub last : List Rows
  pub grounds : List Diagram
  pub sets : List (List Diagram)
  pub lists : List (List Mode)
  pub solved : SetsAreSolved truth p comps parts.levels first last grounds sets lists
  pub spelled : PartsAreSpelled p parts parts.levels first last grounds sets lists

-- the parts that preconditions and modes give, above these ground rows of the first table
pub record HavePreconditions (truth : (ℕ → Bool) → Tree → Bool) (p : Listing) (comps : Partition) (first last : List Rows) (grounds : List Diagram) (levels : List (List LevelPart)) (parts : Parts) : Type 0 where
  pub sets : List (List Diagram)
  pub lists : List (List Mode)
  pub mapping_sets : AreMappingSets p.preds last sets
  pub solved : (c : ℕ) → c < length comps.members → IsSolved truth p comps (family_of p.preds first grounds) levels last sets c
  pub modes_are : AreModes p.preds (allowed_family p.preds last sets) lists
  pub sets_listed : parts.preconditions ≡ spelled_lists p.preds last sets
  pub modes_listed : parts.modes ≡ mode_lists lists

-- the norm and the parts but for those that sets of truth rows give
pub record KeepsNumbers (old new : Parts) : Type 0 where
  pub norm : new.norm ≡ old.norm
  pub rows : new.rows ≡ old.rows
  pub row_proofs : new.row_proofs ≡ old.row_proofs
  pub levels : new.levels ≡ old.levels
  pub falls : new.falls ≡ old.falls
  pub refutations : new.refutations ≡ old.refutations
