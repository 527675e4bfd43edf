use Rattle.std.proofs.Common.{◌≡◌, ℕ, length, slice_get, Some}
use Rattle.bool_diagrams.specs.Rows.{Keeps}
use Rattle.bool_diagrams.specs.declared.diagram.Diagram.{Diagram}
use Rattle.moved_diagrams.specs.Moved.{IsMoved}
use Rattle.moved_diagrams.proofs.moving.moved_own.Given as goal

abbrev pub invariant-loop-set : goal.invariant-loop-set
invariant-loop-set l = record {
  keeps : Keeps l.initial.into l.into;
  each : length l.own ≡ l.set-index;
  at : (m : ℕ) (e : Diagram) → slice_get l.own m ≡ Some e → (d : Diagram) → slice_get l.sets m ≡ Some d → IsMoved l.arity l.table d l.into e;
}
