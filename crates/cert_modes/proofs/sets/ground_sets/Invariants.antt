use Rattle.std.proofs.Common.{◌≡◌, ℕ, length, slice_get, Some}
use Rattle.bool_diagrams.specs.Cubes.{covered}
use Rattle.bool_diagrams.specs.Rows.{Keeps}
use Rattle.bool_diagrams.specs.declared.diagram.Diagram.{Diagram}
use Rattle.cert_structure.specs.Shape.{arity_in, items_of}
use Rattle.cert_modes.specs.Sets.{HasRows}
use Rattle.cert_modes.proofs.sets.ground_sets.Given as goal

-- the sets so far
abbrev pub invariant-loop-q : goal.invariant-loop-q
invariant-loop-q l =
    record {
      keeps : Keeps l.fn.table l.table;
      count : length l.sets.items ≡ l.q;
      rows : (q : ℕ) (d : Diagram) → slice_get l.sets.items q ≡ Some d → HasRows l.table (arity_in l.p q) (covered (items_of l.cubes q)) d;
    }
