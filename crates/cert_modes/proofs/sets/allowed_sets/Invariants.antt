use Rattle.std.proofs.Common.{◌≡◌, ℕ, length, slice_get, Some}
use Rattle.bool_diagrams.specs.Rows.{Keeps}
use Rattle.bool_diagrams.specs.declared.diagram.Diagram.{Diagram}
use Rattle.cert_structure.specs.Shape.{arity_in, items_of}
use Rattle.cert_modes.specs.Sets.{HasRows, upward}
use Rattle.cert_modes.proofs.sets.allowed_sets.Given as goal

-- the sets so far
abbrev pub invariant-loop-q : goal.invariant-loop-q
invariant-loop-q l =
    record {
      keeps : Keeps l.fn.table l.table;
      count : length l.allowed.items ≡ l.q;
      rows : (q : ℕ) (d : Diagram) → slice_get l.allowed.items q ≡ Some d → HasRows l.table (arity_in l.p q) (upward l.fn.table (items_of l.sets q)) d;
    }
