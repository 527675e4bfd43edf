use Rattle.std.proofs.Common.{◌≡◌, ◌<◌, ℕ, length}
use Rattle.bool_diagrams.specs.Rows.{Keeps}
use Rattle.cert_structure.specs.Shape.{items_of}
use Rattle.cert_modes.specs.Marks.{IsMarked, mark_at}
use Rattle.cert_modes.specs.declared.fault.ModeReason.TheVariants as reason
use Rattle.cert_modes.specs.Sets.{AreCovered}
use Rattle.cert_modes.proofs.covering.mark_uncovered.Given as goal

-- the marks say of each predicate so far whether its sets are covered
abbrev pub invariant-loop-q : goal.invariant-loop-q
invariant-loop-q l =
    record {
      keeps : Keeps l.fn.table l.table;
      each : length l.marks ≡ length l.fn.marks;
      covered : (q : ℕ) → IsMarked ((j : ℕ) → j < l.q → q ≡ j → AreCovered l.fn.table (items_of l.levels j) (items_of l.sets j)) reason.Precondition (mark_at l.fn.marks q) (mark_at l.marks q);
    }
