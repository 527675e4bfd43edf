use Rattle.std.proofs.Common.{◌≡◌, ℕ, length, slice_get, Some}
use Rattle.bool_diagrams.specs.Rows.{Keeps}
use Rattle.bool_diagrams.specs.declared.diagram.Diagram.{Diagram}
use Rattle.moved_diagrams.specs.Moved.{IsMovedOf}
use Rattle.moved_diagrams.proofs.moving.moved_sets.Given as goal

abbrev pub invariant-loop-q : goal.invariant-loop-q
invariant-loop-q l = record {
  keeps : Keeps l.initial.into l.into;
  each : length l.all.items ≡ l.q;
  at : (q : ℕ) (e : Diagram) → slice_get l.all.items q ≡ Some e → IsMovedOf l.p.preds l.table l.sets l.into q e;
}
