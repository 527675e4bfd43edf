-- Private.
-- Sets of truth rows in two tables.
use Rattle.std.specs.Prelude.{◌≡◌, ℕ, Bool, List, length, slice_get, Some}
use Rattle.bool_diagrams.specs.Cubes.{truth_rows}
use Rattle.bool_diagrams.specs.Rows.{IsDiagram, ReadsBelow}
use Rattle.bool_diagrams.specs.Tree.{Tree as Rows}
use Rattle.bool_diagrams.specs.declared.diagram.Diagram.{Diagram}
use Rattle.cti_terms.specs.declared.predicates.Pred.{Pred}

-- a diagram of the second table has the rows of this length that one of the first has
pub record IsMoved (arity : ℕ) (trees : List Rows) (d : Diagram) (new_trees : List Rows) (e : Diagram) : Type 0 where
  pub known : IsDiagram new_trees e
  pub reads : ReadsBelow new_trees e arity
  pub rows : (row : List Bool) → length row ≡ arity → truth_rows new_trees e row ≡ truth_rows trees d row

-- so it is with the diagram of a predicate
abbrev pub IsMovedOf : List Pred → List Rows → List Diagram → List Rows → ℕ → Diagram → Type 0
IsMovedOf preds trees sets new_trees q e = (x : Pred) (d : Diagram) → slice_get preds q ≡ Some x → slice_get sets q ≡ Some d → IsMoved x.arity trees d new_trees e

-- of each predicate
pub record AreMovedSets (preds : List Pred) (trees : List Rows) (sets : List Diagram) (new_trees : List Rows) (new_sets : List Diagram) : Type 0 where
  pub each : length new_sets ≡ length preds
  pub at : (q : ℕ) (e : Diagram) → slice_get new_sets q ≡ Some e → IsMovedOf preds trees sets new_trees q e

-- diagrams of a table over variables below a number
pub record AreDiagramsBelow (trees : List Rows) (arity : ℕ) (sets : List Diagram) : Type 0 where
  pub known : (m : ℕ) (d : Diagram) → slice_get sets m ≡ Some d → IsDiagram trees d
  pub reads : (m : ℕ) (d : Diagram) → slice_get sets m ≡ Some d → ReadsBelow trees d arity

-- the same sets in another table, in order
pub record AreMovedOwn (arity : ℕ) (trees : List Rows) (sets : List Diagram) (new_trees : List Rows) (new_sets : List Diagram) : Type 0 where
  pub each : length new_sets ≡ length sets
  pub at : (m : ℕ) (e : Diagram) → slice_get new_sets m ≡ Some e → (d : Diagram) → slice_get sets m ≡ Some d → IsMoved arity trees d new_trees e

-- diagrams for each predicate, over its arguments alone
pub record AreLists (preds : List Pred) (trees : List Rows) (lists : List (List Diagram)) : Type 0 where
  pub each : length lists ≡ length preds
  pub own : (q : ℕ) (x : Pred) (sets : List Diagram) → slice_get preds q ≡ Some x → slice_get lists q ≡ Some sets → AreDiagramsBelow trees x.arity sets

-- those of a predicate in another table
abbrev pub IsMovedList : List Pred → List Rows → List (List Diagram) → List Rows → ℕ → List Diagram → Type 0
IsMovedList preds trees lists new_trees q own = (x : Pred) (sets : List Diagram) → slice_get preds q ≡ Some x → slice_get lists q ≡ Some sets → AreMovedOwn x.arity trees sets new_trees own

-- of each predicate
pub record AreMovedLists (preds : List Pred) (trees : List Rows) (lists : List (List Diagram)) (new_trees : List Rows) (new_lists : List (List Diagram)) : Type 0 where
  pub each : length new_lists ≡ length preds
  pub own : (q : ℕ) (own : List Diagram) → slice_get new_lists q ≡ Some own → IsMovedList preds trees lists new_trees q own
