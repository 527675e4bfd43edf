use Rattle.std.proofs.Common.{◌↔◌, ◌<◌, ℕ, Bool, IsTrue, Contains}
use Rattle.bool_diagrams.specs.Rows.{IsDiagram, Keeps, holds}
use Rattle.term_size.specs.Members.{members}
use Rattle.truth_rows.proofs.rigidity.rigid_rows.Given as goal

abbrev pub invariant-loop-x : goal.invariant-loop-x
invariant-loop-x g l =
    record {
      keeps : Keeps l.fn.table l.table;
      known : IsDiagram l.table l.rows;
      rows : (row : ℕ → Bool) → IsTrue (holds l.table l.rows row) ↔ ((y : ℕ) → y < l.x → Contains (members l.listed) y → IsTrue (row y));
    }
