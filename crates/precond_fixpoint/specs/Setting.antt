-- Private.
-- What is required of a search: of what it reads and leaves as it is, and of the component that it is for. Nothing here
-- has to be believed.
use Rattle.std.specs.Prelude.{◌≡◌, ◌+◌, ℕ, List, length, map, slice_get, Some}
use Rattle.bool_diagrams.specs.Tree.{Tree as Rows}
use Rattle.bool_diagrams.specs.declared.diagram.Diagram.{Diagram}
use Rattle.call_components.specs.Partition.{AreComponents}
use Rattle.cti_terms.specs.Listing.{IsProgram}
use Rattle.cti_terms.specs.declared.predicates.PredId.{PredId}
use Rattle.groundness.specs.Marks.{AreHeads, AreUsers}
use Rattle.number_tests.specs.Levels.{items_of}
use Rattle.precond_fixpoint.specs.Removing.{AreRanked}
use Rattle.precond_fixpoint.specs.Solving.{AreLevels}
use Rattle.precond_fixpoint.specs.declared.setting.Component.{Component}
use Rattle.precond_fixpoint.specs.declared.setting.Setting.{Setting}
use Rattle.termination_model.specs.grounds.Grounds.{Family}
use Rattle.truth_rows.specs.Sets.{AreSets, family_of}

-- a program with its components and ranks, the clauses of its predicates, its ground sets and its mappings
pub record IsSetting {N : Type 0} (s : Setting N) (trees : List Rows) : Type 0 where
  pub program : IsProgram s.program.now
  pub components : AreComponents s.program.now s.comps.now
  pub each : length s.ranks.now ≡ length s.program.now.preds
  pub ranks : s.ranks.now ≡ map (λ c. c + 1) s.comps.now.of
  pub heads : AreHeads s.program.now s.heads.now
  pub users : AreUsers s.program.now s.users.now
  pub grounds : AreSets s.program.now.preds trees s.grounds.now
  pub levels : AreLevels s.program.now s.comps.now s.levels.now

-- the rows that sets have, one set for each predicate of the program
abbrev pub rows_of : {N : Type 0} → Setting N → List Rows → List Diagram → Family
rows_of s trees sets = family_of s.program.now.preds trees sets

-- the members are the predicates of the component's rank, with so many mappings, and what is allowed is there for each
-- predicate
pub record IsComponent {N : Type 0} (s : Setting N) (component : Component) (trees : List Rows) : Type 0 where
  pub members : AreRanked s.program.now.preds s.ranks.now component.rank component.members.now
  pub mappings : (j : ℕ) (a : PredId) → slice_get component.members.now j ≡ Some a → length (items_of s.levels.now a.0) ≡ component.mappings
  pub allowed : AreSets s.program.now.preds trees component.allowed.now
