use Rattle.std.proofs.Common.{◌≡◌, ℕ, List, length, slice_get, Some}
use Rattle.bool_diagrams.specs.Rows.{Keeps}
use Rattle.bool_diagrams.specs.declared.diagram.Diagram.{Diagram}
use Rattle.cert_structure.specs.Shape.{arity_in, items_of}
use Rattle.cert_modes.specs.Sets.{AreSpelled}
use Rattle.cert_modes.proofs.sets.precondition_sets.Given as goal

-- the sets so far
abbrev pub invariant-loop-q : goal.invariant-loop-q
invariant-loop-q l =
    record {
      keeps : Keeps l.fn.table l.table;
      count : length l.sets ≡ l.q;
      rows : (q : ℕ) (ds : List Diagram) → slice_get l.sets q ≡ Some ds → AreSpelled l.table (arity_in l.p q) (items_of l.cubes q) ds;
    }
