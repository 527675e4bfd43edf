use Rattle.std.proofs.Common.{◌↔◌, ℕ, Bool, IsTrue}
use Rattle.truth_rows.specs.Ready.{HasCells}
use Rattle.bool_diagrams.specs.Rows.{IsDiagram, Keeps, holds}
use Rattle.truth_rows.proofs.of_cubes.cell_rows.Given as goal

abbrev pub invariant-loop-argument : goal.invariant-loop-argument
invariant-loop-argument l =
    record {
      keeps : Keeps l.fn.table l.table;
      known : IsDiagram l.table l.rows;
      rows : (row : ℕ → Bool) → IsTrue (holds l.table l.rows row) ↔ HasCells row l.cells l.argument;
    }
