use Rattle.std.proofs.Common.{◌↔◌, ℕ, Bool, IsTrue}
use Rattle.bool_diagrams.specs.Rows.{IsDiagram, Keeps, ReadsBelow, holds}
use Rattle.truth_rows.proofs.UpperLaws.{IsRaised}
use Rattle.truth_rows.proofs.upper.upper_rows.Given as goal

abbrev pub invariant-loop-argument : goal.invariant-loop-argument
invariant-loop-argument l =
    record {
      keeps : Keeps l.fn.table l.table;
      known : IsDiagram l.table l.rows;
      reads : ReadsBelow l.table l.rows l.width;
      rows : (row : ℕ → Bool) → IsTrue (holds l.table l.rows row) ↔ ((other : ℕ → Bool) → IsRaised l.argument row other → IsTrue (holds l.fn.table l.fn.set other));
    }
