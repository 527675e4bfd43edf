-- Private.
-- What is kept of a program's ground rows, and how far those of a program after an edit have come.
--
-- Each component has its least rows above those of the predicates that it calls, in one family for the whole program.
-- So it is a fact of one component over the whole family.
--
-- To believe: `AreSolvedGrounds`, `SolvedGroundsAreLeast`.
use Rattle.std.specs.Prelude.{◌≡◌, ◌<◌, ◌≤◌, ℕ, Bool, List, length, slice_get, Some}
use Rattle.bool_diagrams.specs.declared.diagram.Diagram.{Diagram}
use Rattle.bool_diagrams.specs.Tree.{Tree as Rows}
use Rattle.call_components.specs.Partition.{Partition, AreComponents, IsIn}
use Rattle.cti_terms.specs.Listing.{Listing, IsProgram}
use Rattle.cti_terms.specs.Tree.{Tree}
use Rattle.cti_terms.specs.declared.predicates.Pred.{Pred}
use Rattle.termination_model.specs.chains.Chain.{is_member}
use Rattle.termination_model.specs.grounds.LeastOver.{IsLeastOver}
use Rattle.termination_model.specs.grounds.Grounds.{Family, IsLeast}
use Rattle.truth_rows.specs.Sets.{AreSets, family_of}
use Rattle.groundness.specs.Marks.{AreHeads, AreUsers}
use Rattle.solved_program.specs.EditClauses.{AreEditClauses}
use Rattle.solved_program.specs.Marks.{AreMarkedTo}
use Rattle.solved_program.specs.Standing.{KeepValues, KeepValuesTo}
use Rattle.solved_program.specs.declared.edit.Edit.{Edit}
use Rattle.solved_program.specs.declared.grounds.GroundSources.{GroundSources}

module _ (truth : (ℕ → Bool) → Tree → Bool) (p : Listing) (comps : Partition) where
  -- the components below n have their least rows
  abbrev pub AreLeastTo : ℕ → Family → Type 0
  AreLeastTo n family = (c : ℕ) → c < n → IsLeastOver truth p (is_member comps c) family family

  -- diagrams for all predicates, and each component has its least rows
  pub record AreSolvedGrounds (trees : List Rows) (sets : List Diagram) : Type 0 where
    pub sets_are : AreSets p.preds trees sets
    pub least : AreLeastTo (length comps.members) (family_of p.preds trees sets)

-- they are the least rows of the program
abbrev pub SolvedGroundsAreLeast : Type 0
SolvedGroundsAreLeast = (truth : (ℕ → Bool) → Tree → Bool) (p : Listing) (comps : Partition) (trees : List Rows) (sets : List Diagram) → IsProgram p → AreComponents p comps
    → AreSolvedGrounds truth p comps trees sets → IsLeast truth p (family_of p.preds trees sets)

-- diagrams for the new predicates: each that was there before has what it had
pub record AreCarriedSets (e : Edit) (trees : List Rows) (old carried : List Diagram) : Type 0 where
  pub sets_are : AreSets e.after.now.preds trees carried
  pub same : (q r : ℕ) (x : Pred) → slice_get e.before.now.preds q ≡ Some x → slice_get e.after.now.preds r ≡ Some x → slice_get carried r ≡ slice_get old q

-- The components below n have their least rows, and those of them that stand for old ones have kept their rows. Their
-- members have marks where their rows stayed. All later ones still have what they had before the edit.
pub record AreGroundsTo (truth : (ℕ → Bool) → Tree → Bool) (e : Edit) (old carried : List Diagram) (n : ℕ) (trees : List Rows) (sets : List Diagram) (marks : List Bool) : Type 0 where
  pub sets_are : AreSets e.after.now.preds trees sets
  pub least : AreLeastTo truth e.after.now e.components.now n (family_of e.after.now.preds trees sets)
  pub marked : AreMarkedTo e n (family_of e.before.now.preds trees old) (family_of e.after.now.preds trees sets) marks
  pub stayed : KeepValuesTo e n (family_of e.before.now.preds trees old) (family_of e.after.now.preds trees sets)
  pub later : (r d : ℕ) → IsIn e.components.now d r → n ≤ d → slice_get sets r ≡ slice_get carried r

-- an edit, the clauses of the new predicates, and the diagrams from before it
pub record AreGroundSources {N : Type 0} (s : GroundSources N) (trees : List Rows) : Type 0 where
  pub clauses : AreEditClauses s.clauses.now
  pub heads : AreHeads s.clauses.now.edit.now.after.now s.heads.now
  pub users : AreUsers s.clauses.now.edit.now.after.now s.users.now
  pub old : AreSets s.clauses.now.edit.now.before.now.preds trees s.old.now
  pub carried : AreCarriedSets s.clauses.now.edit.now trees s.old.now s.carried.now

module _ {N : Type 0} (truth : (ℕ → Bool) → Tree → Bool) (s : GroundSources N) where
  -- the diagrams from before the edit are those of the old program
  abbrev pub AreOldGrounds : List Rows → Type 0
  AreOldGrounds trees = AreSolvedGrounds truth s.clauses.now.edit.now.before.now s.clauses.now.edit.now.components_before.now trees s.old.now

  -- these diagrams are those of the new program
  abbrev pub AreNewGrounds : List Rows → List Diagram → Type 0
  AreNewGrounds trees sets = AreSolvedGrounds truth s.clauses.now.edit.now.after.now s.clauses.now.edit.now.components.now trees sets

  -- they are those of its components below n
  abbrev pub AreGroundsOf : ℕ → List Rows → List Diagram → List Bool → Type 0
  AreGroundsOf n trees sets marks = AreGroundsTo truth s.clauses.now.edit.now s.old.now s.carried.now n trees sets marks

-- each component that stands for an old one has the rows that it had in an earlier state of the table
abbrev pub KeepGrounds : {N : Type 0} → GroundSources N → List Rows → List Rows → List Diagram → Type 0
KeepGrounds s trees new_trees sets = KeepValues s.clauses.now.edit.now (family_of s.clauses.now.edit.now.before.now.preds trees s.old.now) (family_of s.clauses.now.edit.now.after.now.preds new_trees sets)
