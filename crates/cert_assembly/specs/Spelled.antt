-- Private.
-- The parts of a certificate that sets of truth rows give: their cubes, and the modes.
--
-- Nothing here has to be believed.
use Rattle.std.specs.Prelude.{ℕ, List, [], length, map, slice_get, Option, None, Some}
use Rattle.bool_diagrams.specs.Cubes.{cubes, truth_rows}
use Rattle.bool_diagrams.specs.Tree.{Tree as Rows}
use Rattle.bool_diagrams.specs.declared.cube.Cell.{Cell}
use Rattle.bool_diagrams.specs.declared.diagram.Diagram.{Diagram}
use Rattle.cti_terms.specs.declared.predicates.Pred.{Pred}
use Rattle.linear_rows.specs.Step.{columns}
use Rattle.number_tests.specs.Levels.{items_of}
use Rattle.precond_fixpoint.specs.Solving.{arguments_of}
use Rattle.precond_fixpoint.specs.declared.mode.Mode.{Mode}

-- the cubes of a predicate's set
abbrev pub spelled : Option Pred → List Rows → Option Diagram → List (List Cell)
spelled None trees d = []
spelled (Some x) trees None = []
spelled (Some x) trees (Some d) = cubes x.arity (truth_rows trees d)

module _ (preds : List Pred) (trees : List Rows) where
  -- the cubes of the sets of all predicates
  abbrev pub spelled_list : List Diagram → List (List (List Cell))
  spelled_list sets = map (λ q. spelled (slice_get preds q) trees (slice_get sets q)) (columns 0 (length preds))

  -- the cubes of the sets of a predicate
  abbrev pub spelled_each : Option Pred → List Diagram → List (List (List Cell))
  spelled_each x ds = map (λ d. spelled x trees (Some d)) ds

  -- where each predicate has a set for each mapping
  abbrev pub spelled_lists : List (List Diagram) → List (List (List (List Cell)))
  spelled_lists sets = map (λ q. spelled_each (slice_get preds q) (items_of sets q)) (columns 0 (length preds))

-- the arguments of modes
abbrev pub mode_lists : List (List Mode) → List (List (List ℕ))
mode_lists lists = map (map arguments_of) lists
