use Rattle.std.proofs.Common.{◌≡◌, ℕ, List, length, slice_get, Some}
use Rattle.bool_diagrams.specs.Rows.{Keeps}
use Rattle.bool_diagrams.specs.declared.diagram.Diagram.{Diagram}
use Rattle.moved_diagrams.specs.Moved.{IsMovedList}
use Rattle.moved_diagrams.proofs.moving.moved_lists.Given as goal

abbrev pub invariant-loop-q : goal.invariant-loop-q
invariant-loop-q l = record {
  keeps : Keeps l.initial.into l.into;
  each : length l.all ≡ l.q;
  own : (q : ℕ) (own : List Diagram) → slice_get l.all q ≡ Some own → IsMovedList l.p.preds l.table l.lists l.into q own;
}
