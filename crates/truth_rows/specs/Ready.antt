-- Private.
-- What the rows of atoms and clauses are read from, and the rows on which their sets have them.
-- Nothing here has to be believed.
use Rattle.std.specs.Prelude.{ℕ, ◌≡◌, ◌<◌, ◌≤◌, Bool, IsTrue, List, length, slice_get, Some}
use Rattle.std.specs.List.{AllByRecursion}
use Rattle.bool_diagrams.specs.declared.diagram.Diagram.{Diagram}
use Rattle.bool_diagrams.specs.declared.cube.Cell.{Cell}
use Rattle.bool_diagrams.specs.Cubes.{allows, truth_rows}
use Rattle.bool_diagrams.specs.Rows.{IsDiagram, ReadsBelow}
use Rattle.bool_diagrams.specs.Tree.{Tree as Rows}
use Rattle.cti_terms.specs.declared.atom_list.Atom.{Atom}
use Rattle.cti_terms.specs.declared.clauses.Clause.{Clause}
use Rattle.cti_terms.specs.Listing.{atom_nodes}
use Rattle.cti_terms.specs.Tree.{Tree, is_below}
use Rattle.termination_model.specs.grounds.Grounds.{truth_row}

-- what the rows of an atom are read from
pub record IsReady (trees : List Rows) (sets : List Diagram) (vars : ℕ) (b : Atom) : Type 0 where
  pub there : b.pred.0 < length sets
  pub known : (d : Diagram) → slice_get sets b.pred.0 ≡ Some d → IsDiagram trees d × ReadsBelow trees d (length b.args)
  pub narrow : length b.args ≤ 12
  pub below : AllByRecursion (λ t. IsTrue (is_below vars t)) b.args
  pub small : atom_nodes b ≤ 2097152

-- what the rows of a clause are read from
pub record IsReadyClause (trees : List Rows) (sets : List Diagram) (k : Clause) : Type 0 where
  pub few : k.vars ≤ 48
  pub head : IsReady trees sets k.vars k.head
  pub body : (j : ℕ) (b : Atom) → slice_get k.body j ≡ Some b → IsReady trees sets k.vars b

-- the row agrees with the first n cells
abbrev pub HasCells : (ℕ → Bool) → List Cell → ℕ → Type 0
HasCells row cells n = (j : ℕ) (cell : Cell) → j < n → slice_get cells j ≡ Some cell → IsTrue (allows cell (row j))

module _ (truth : (ℕ → Bool) → Tree → Bool) where
  -- the set of the atom's predicate has its truth row
  abbrev pub HasAtom : List Rows → List Diagram → (ℕ → Bool) → Atom → Type 0
  HasAtom trees sets v b = (d : Diagram) → slice_get sets b.pred.0 ≡ Some d → IsTrue (truth_rows trees d (truth_row truth v b))

  -- so for the first n atoms
  abbrev pub HasAtoms : List Rows → List Diagram → (ℕ → Bool) → List Atom → ℕ → Type 0
  HasAtoms trees sets v body n = (j : ℕ) (b : Atom) → j < n → slice_get body j ≡ Some b → HasAtom trees sets v b

  -- the row has the truth of the first n terms
  abbrev pub HasTruths : (ℕ → Bool) → (ℕ → Bool) → List Tree → ℕ → Type 0
  HasTruths v row ts n = (j : ℕ) (t : Tree) → j < n → slice_get ts j ≡ Some t → row j ≡ truth v t
