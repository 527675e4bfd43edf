-- Private.
-- How far the preconditions of a program after an edit have come.
use Rattle.std.specs.Prelude.{◌≡◌, ◌+◌, ◌<◌, ◌≤◌, ℕ, Bool, List, length, map, slice_get, Some}
use Rattle.bool_diagrams.specs.Tree.{Tree as Rows}
use Rattle.bool_diagrams.specs.declared.diagram.Diagram.{Diagram}
use Rattle.call_components.specs.Partition.{IsIn}
use Rattle.cti_terms.specs.Listing.{Listing}
use Rattle.cti_terms.specs.Tree.{Tree}
use Rattle.cti_terms.specs.declared.predicates.Pred.{Pred}
use Rattle.groundness.specs.Marks.{AreHeads, AreUsers}
use Rattle.precond_fixpoint.specs.Solving.{AreMappingSets, AreUnions, IsSolved}
use Rattle.solved_program.specs.EditClauses.{AreEditClauses}
use Rattle.solved_program.specs.Marks.{AreMarkedTo, StandsMarked}
use Rattle.truth_rows.specs.Sets.{AreSets, family_of}
use Rattle.carried_preconditions.specs.Same.{IsSameAs, input_values}
use Rattle.carried_preconditions.specs.Solved.{AreInputs, ArePreconditions, KeepPreconditions, KeepSetsTo, rows_with}
use Rattle.carried_preconditions.specs.declared.preconditions.SolvedPreconditions.{SolvedPreconditions}
use Rattle.carried_preconditions.specs.declared.progress.Progress.{Progress}
use Rattle.carried_preconditions.specs.declared.progress.Room.{Room}
use Rattle.carried_preconditions.specs.declared.sources.PreconditionSources.{PreconditionSources}

-- a mark or none for each clause, and a set for each predicate
pub record HasRoom (p : Listing) (trees : List Rows) (room : Room) : Type 0 where
  pub marks : length room.marks ≡ length p.clauses
  pub sets : AreSets p.preds trees room.sets.items

-- an edit, and ground rows and mappings of both programs
pub record AreSources {N : Type 0} (s : PreconditionSources N) (trees : List Rows) : Type 0 where
  pub clauses : AreEditClauses s.clauses.now
  pub ranks : s.ranks.now ≡ map (λ c. c + 1) s.clauses.now.edit.now.components.now.of
  pub heads : AreHeads s.clauses.now.edit.now.after.now s.heads.now
  pub users : AreUsers s.clauses.now.edit.now.after.now s.users.now
  pub before : AreInputs s.clauses.now.edit.now.before.now s.clauses.now.edit.now.components_before.now trees s.before.now.inputs
  pub inputs : AreInputs s.clauses.now.edit.now.after.now s.clauses.now.edit.now.components.now trees s.inputs.now

module _ {N : Type 0} (s : PreconditionSources N) (trees : List Rows) where
  -- the ground rows of each old predicate, and what was allowed of it
  abbrev pub values_before : ℕ → (List Bool → Bool) × (List Bool → Bool)
  values_before = rows_with s.clauses.now.edit.now.before.now.preds trees s.before.now.inputs s.before.now.solved.now.allowed

  -- those of each new one
  abbrev pub values_now : List Diagram → ℕ → (List Bool → Bool) × (List Bool → Bool)
  values_now allowed = rows_with s.clauses.now.edit.now.after.now.preds trees s.inputs.now allowed

  -- they are what they were
  abbrev pub HasStayed : List Diagram → ℕ → Type 0
  HasStayed allowed = IsSameAs s.clauses.now.edit.now values_before (values_now allowed)

  -- each member of a component has the ground rows and the coefficients that it had
  abbrev pub MembersHaveStayed : ℕ → Type 0
  MembersHaveStayed c = (r : ℕ) → IsIn s.clauses.now.edit.now.components.now c r → IsSameAs s.clauses.now.edit.now
      (input_values s.clauses.now.edit.now.before.now.preds trees s.before.now.inputs)
      (input_values s.clauses.now.edit.now.after.now.preds trees s.inputs.now) r

  -- a component stands for an old one, and its members have the ground rows and the coefficients that they had
  pub record StandsKept (stayed : List Bool) (c : ℕ) : Type 0 where
    pub component : ℕ
    pub stands : StandsMarked s.clauses.now.edit.now stayed component c
    pub own : MembersHaveStayed c

module _ {N : Type 0} (truth : (ℕ → Bool) → Tree → Bool) (s : PreconditionSources N) where
  -- the sets from before the edit are those of the old program
  abbrev pub AreOld : List Rows → Type 0
  AreOld trees = ArePreconditions truth s.clauses.now.edit.now.before.now s.clauses.now.edit.now.components_before.now trees s.before.now.inputs s.before.now.solved.now

  -- these sets are those of the new program
  abbrev pub AreNew : List Rows → SolvedPreconditions → Type 0
  AreNew trees solved = ArePreconditions truth s.clauses.now.edit.now.after.now s.clauses.now.edit.now.components.now trees s.inputs.now solved

  -- The components below n have their greatest sets, and those of them that stand for old ones have kept their
  -- diagrams. All later ones have what they had before the edit.
  pub record AreSolvedTo (n : ℕ) (trees : List Rows) (sets : List (List Diagram)) (allowed : List Diagram) : Type 0 where
    pub sets_are : AreMappingSets s.clauses.now.edit.now.after.now.preds trees sets
    pub allowed_are : AreUnions s.clauses.now.edit.now.after.now.preds trees sets allowed
    pub greatest : (c : ℕ) → c < n → IsSolved truth s.clauses.now.edit.now.after.now s.clauses.now.edit.now.components.now
        (family_of s.clauses.now.edit.now.after.now.preds trees s.inputs.now.grounds.now) s.inputs.now.levels.now trees sets c
    pub kept : KeepSetsTo s.clauses.now.edit.now n trees trees s.before.now s.inputs.now sets allowed
    pub later : (q r d : ℕ) (x : Pred) → slice_get s.clauses.now.edit.now.before.now.preds q ≡ Some x → slice_get s.clauses.now.edit.now.after.now.preds r ≡ Some x
        → IsIn s.clauses.now.edit.now.components.now d r → n ≤ d → slice_get sets r ≡ slice_get s.before.now.solved.now.sets q

  -- so it is, and members of the components below n have marks where their values stayed
  pub record AreUpTo (n : ℕ) (trees : List Rows) (progress : Progress) : Type 0 where
    pub room : HasRoom s.clauses.now.edit.now.after.now trees progress.room
    pub solved : AreSolvedTo n trees progress.sets.items progress.allowed.items
    pub marked : AreMarkedTo s.clauses.now.edit.now n (values_before s trees) (values_now s trees progress.allowed.items) progress.stayed.items

  -- the components below c are done, and c is the next one
  pub record IsNext (c : ℕ) (trees : List Rows) (progress : Progress) : Type 0 where
    pub sources : AreSources s trees
    pub old : AreOld trees
    pub inner : c < length s.clauses.now.edit.now.components.now.members
    pub found : AreUpTo c trees progress

  -- the component c has its sets, those of other components stay, and there are no new marks
  pub record AreRenewed (c : ℕ) (trees new_trees : List Rows) (old new : Progress) : Type 0 where
    pub room : HasRoom s.clauses.now.edit.now.after.now new_trees new.room
    pub solved : AreSolvedTo (c + 1) new_trees new.sets.items new.allowed.items
    pub others : (r : ℕ) → (IsIn s.clauses.now.edit.now.components.now c r → ⊥) → slice_get new.sets.items r ≡ slice_get old.sets.items r
    pub stayed : new.stayed ≡ old.stayed

-- each component that stands for an old one has the diagrams that it had in an earlier state of the table
abbrev pub KeepDiagrams : {N : Type 0} → PreconditionSources N → List Rows → List Rows → SolvedPreconditions → Type 0
KeepDiagrams s trees new_trees solved = KeepPreconditions s.clauses.now.edit.now trees new_trees s.before.now s.inputs.now solved
