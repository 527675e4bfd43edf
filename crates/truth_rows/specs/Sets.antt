-- Private.
-- Families of truth rows as diagrams: variable i of a set is argument i.
--
-- To believe: all of this file.
use Rattle.std.specs.Prelude.{ℕ, ◌≡◌, ◌==◌, ◌&&◌, Bool, false, List, length, slice_get, Option, Some, None}
use Rattle.bool_diagrams.specs.declared.diagram.Diagram.{Diagram}
use Rattle.bool_diagrams.specs.Cubes.{truth_rows}
use Rattle.bool_diagrams.specs.Rows.{IsDiagram, ReadsBelow}
use Rattle.bool_diagrams.specs.Tree.{Tree as Rows}
use Rattle.cti_terms.specs.declared.predicates.Pred.{Pred}
use Rattle.termination_model.specs.grounds.Grounds.{Family, HasArity}

-- whether a predicate's diagram has a truth row of as many values as the predicate has arguments
abbrev pub has_row : Option Pred → List Rows → Option Diagram → List Bool → Bool
has_row None trees d row = false
has_row (Some p) trees None row = false
has_row (Some p) trees (Some d) row = (p.arity == length row) && truth_rows trees d row

-- the family of truth rows that diagrams have, one for each predicate
abbrev pub family_of : List Pred → List Rows → List Diagram → Family
family_of preds trees sets q row = has_row (slice_get preds q) trees (slice_get sets q) row

-- a diagram of the table for each predicate, over its arguments alone
pub record AreSets (preds : List Pred) (trees : List Rows) (sets : List Diagram) : Type 0 where
  pub each : length sets ≡ length preds
  pub known : (q : ℕ) (d : Diagram) → slice_get sets q ≡ Some d → IsDiagram trees d
  pub reads : (q n : ℕ) (d : Diagram) → slice_get sets q ≡ Some d → HasArity preds q n → ReadsBelow trees d n
