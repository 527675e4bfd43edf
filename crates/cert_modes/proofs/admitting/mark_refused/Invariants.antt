use Rattle.std.proofs.Common.{◌≡◌, ◌<◌, ℕ, IsTrue, length, slice_get, Some}
use Rattle.std.specs.List.{list_all}
use Rattle.bool_diagrams.specs.Cubes.{truth_rows}
use Rattle.bool_diagrams.specs.declared.diagram.Diagram.{Diagram}
use Rattle.cert_structure.specs.Shape.{arity_in, items_of}
use Rattle.cert_modes.specs.Marks.{IsMarked, mark_at}
use Rattle.cert_modes.specs.declared.fault.ModeReason.TheVariants as reason
use Rattle.termination_model.specs.claims.Descent.{mode_row}
use Rattle.cert_modes.proofs.admitting.mark_refused.Given as goal

-- the marks say of each predicate so far whether its modes are admitted
abbrev pub invariant-loop-q : goal.invariant-loop-q
invariant-loop-q l =
    record {
      each : length l.marks ≡ length l.fn.marks;
      admitted : (q : ℕ) → IsMarked ((j : ℕ) → j < l.q → q ≡ j → (d : Diagram) → slice_get l.sets j ≡ Some d
          → IsTrue (list_all (λ mode. truth_rows l.table d (mode_row mode 1 (arity_in l.p j))) (items_of l.modes j))) reason.Mode (mark_at l.fn.marks q) (mark_at l.marks q);
    }
