use Rattle.std.proofs.Common.{◌≡◌, ℕ, length, slice_get, Some}
use Rattle.bool_diagrams.specs.Cubes.{covered}
use Rattle.bool_diagrams.specs.Rows.{Keeps}
use Rattle.bool_diagrams.specs.declared.diagram.Diagram.{Diagram}
use Rattle.cert_structure.specs.Shape.{items_of}
use Rattle.cert_modes.specs.Sets.{HasRows}
use Rattle.cert_modes.proofs.sets.mapping_sets.Given as goal

-- the sets so far
abbrev pub invariant-loop-own : goal.invariant-loop-own
invariant-loop-own l =
    record {
      keeps : Keeps l.fn.table l.table;
      count : length l.sets ≡ l.own-index;
      rows : (m : ℕ) (d : Diagram) → slice_get l.sets m ≡ Some d → HasRows l.table l.width (covered (items_of l.cubes m)) d;
    }
