-- Private.
-- How far the size rows of a program after an edit have come.
use Rattle.std.specs.Prelude.{◌≡◌, ℕ, ◌+◌, ◌<◌, ℤ, Bool, List, [], ◌∷◌, ◌++◌, length, map, slice_get, Some}
use Rattle.call_components.specs.Partition.{Partition, IsIn}
use Rattle.cti_terms.specs.Listing.{Listing}
use Rattle.cti_terms.specs.Tree.{Tree}
use Rattle.numeric_model.specs.Parts.{IsPartOf}
use Rattle.numeric_model.specs.Ready.{IsReady}
use Rattle.component_clauses.specs.Numbered.{AreOwnClauses}
use Rattle.numeric_model.specs.Running.{rows_in}
use Rattle.numeric_model.specs.States.{plain_step}
use Rattle.numeric_model.specs.declared.chain.Chain.{Chain}
use Rattle.numeric_model.specs.declared.state.State.{State}
use Rattle.numeric_model.specs.declared.step.Step.{Step}
use Rattle.linear_rows.specs.declared.row.Rows.{Rows}
use Rattle.termination_model.specs.sizes.Sizes.{AreSizes, rows_of}
use Rattle.solved_program.specs.Carried.{AreLaterCarried}
use Rattle.solved_program.specs.Kept.{IsEdit}
use Rattle.solved_program.specs.Marks.{AreMarkedTo}
use Rattle.solved_program.specs.Renumbered.{in_turn}
use Rattle.solved_program.specs.Solved.{AreSolvedTo}
use Rattle.solved_program.specs.Standing.{KeepValuesTo, StandsFor}
use Rattle.solved_program.specs.Taken.{AreTaken, place_of}
use Rattle.solved_program.specs.declared.progress.Progress.{Progress}
use Rattle.solved_program.specs.declared.resolving.Sources.{Sources}
use Rattle.solved_program.specs.declared.solved_sizes.SolvedSizes.{SolvedSizes}

-- an edit, tables of the old program, and the clauses of all components
pub record AreSources (s : Sources) : Type 0 where
  pub edit : IsEdit s.edit.now
  pub rows : AreSizes s.edit.now.before.now.preds s.old.now.sizes.rows
  pub proofs : length s.old.now.sizes.proofs ≡ length s.edit.now.before.now.clauses
  pub each : length s.old.now.steps ≡ length s.edit.now.components_before.now.members
  pub own_before : AreOwnClauses s.edit.now.before.now s.edit.now.components_before.now s.own_before.now
  pub own : AreOwnClauses s.edit.now.after.now s.edit.now.components.now s.own.now

-- a component stands for an old one where size rows have come out as these
abbrev pub Stands : Sources → List Rows → ℕ → ℕ → Type 0
Stands s rows b c = StandsFor s.edit.now.components_before.now s.edit.now.components.now b c (rows_of s.old.now.sizes.rows) (rows_of rows) s.edit.now.before.now s.edit.now.after.now s.edit.now.kept.now

-- The components below n are solved, and those of them that stand for old ones have kept their rows. Their members have
-- marks where their rows stayed. All later ones still have what they had before the edit.
pub record AreResolvedTo (speaks : List ℤ → Bool) (expression : ℕ → Tree → List ℤ) (s : Sources) (n : ℕ) (now : SolvedSizes) (marks : List Bool) : Type 0 where
  pub solved : AreSolvedTo speaks expression s.edit.now.after.now s.edit.now.components.now n now
  pub marked : AreMarkedTo s.edit.now n (rows_of s.old.now.sizes.rows) (rows_of now.sizes.rows) marks
  pub stayed : KeepValuesTo s.edit.now n (rows_of s.old.now.sizes.rows) (rows_of now.sizes.rows)
  pub later : AreLaterCarried s.edit.now.before.now s.edit.now.after.now s.edit.now.components.now s.edit.now.kept.now s.old.now.sizes.rows s.old.now.sizes.proofs n now.sizes.rows now.sizes.proofs

module _ {D : Type 0} (width : D → ℕ) (listed : D → List (List ℤ)) (s : Sources) where
  -- the component c is done in a state: its members have these rows, and all other predicates those that they had
  pub record IsDone (c : ℕ) (rows : List Rows) (old new : State D) : Type 0 where
    pub ready : IsReady width listed s.edit.now.after.now s.edit.now.components.now (c + 1) new
    pub members : (q : ℕ) → IsIn s.edit.now.components.now c q → rows_in new q ≡ rows_of rows q
    pub others : (q : ℕ) → (IsIn s.edit.now.components.now c q → ⊥) → rows_in new q ≡ rows_in old q

  -- the components below n are resolved, and are done in a state that has their rows
  pub record IsProgress (speaks : List ℤ → Bool) (expression : ℕ → Tree → List ℤ) (n : ℕ) (progress : Progress D) (marks : List Bool) : Type 0 where
    pub resolved : AreResolvedTo speaks expression s n progress.solved marks
    pub ready : IsReady width listed s.edit.now.after.now s.edit.now.components.now n progress.state
    pub same : (q d : ℕ) → IsIn s.edit.now.components.now d q → d < n → rows_in progress.state q ≡ rows_of progress.solved.sizes.rows q

-- the steps of an old component are those of one more component, on the clauses of these numbers
pub record IsCarriedPart (steps : List Step) (own : List ℕ) (old now : SolvedSizes) : Type 0 where
  pub carried : List Step
  pub steps_are : now.steps ≡ old.steps ++ carried ∷ []
  pub sizes : now.sizes ≡ old.sizes
  pub plain : map plain_step carried ≡ in_turn own 0 (map plain_step steps)

-- so it is with the steps of the component `before`, for the component c
abbrev pub IsCarriedFrom : Sources → ℕ → ℕ → SolvedSizes → SolvedSizes → Type 0
IsCarriedFrom s before c old now = (steps : List Step) (own : List ℕ) → slice_get s.old.now.steps before ≡ Some steps → slice_get s.own.now c ≡ Some own → IsCarriedPart steps own old now

-- the rows of these members, the proofs of these clauses and the steps are taken from a chain
pub record IsPartTaken (members own : List ℕ) (chain : Chain) (old now : SolvedSizes) : Type 0 where
  pub each : length now.sizes.rows ≡ length old.sizes.rows
  pub rows : AreTaken members chain.sizes.rows old.sizes.rows now.sizes.rows
  pub count : length now.sizes.proofs ≡ length old.sizes.proofs
  pub proofs : AreTaken (map place_of own) chain.sizes.proofs old.sizes.proofs now.sizes.proofs
  pub steps : now.steps ≡ old.steps ++ chain.steps ∷ []

-- one more component is solved above the rows so far
pub record IsSolvedAnew (speaks : List ℤ → Bool) (expression : ℕ → Tree → List ℤ) (p : Listing) (comps : Partition) (c : ℕ) (members own : List ℕ) (old now : SolvedSizes) : Type 0 where
  pub chain : Chain
  pub part : IsPartOf speaks expression p comps c (rows_of old.sizes.rows) chain
  pub members_are : slice_get comps.members c ≡ Some members
  pub taken : IsPartTaken members own chain old now

-- so it is with the component c
abbrev pub IsSolvedAt : (List ℤ → Bool) → (ℕ → Tree → List ℤ) → Sources → ℕ → SolvedSizes → SolvedSizes → Type 0
IsSolvedAt speaks expression s c old now = (members own : List ℕ) → slice_get s.edit.now.components.now.members c ≡ Some members → slice_get s.own.now c ≡ Some own
    → IsSolvedAnew speaks expression s.edit.now.after.now s.edit.now.components.now c members own old now
