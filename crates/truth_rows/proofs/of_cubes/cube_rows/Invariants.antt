use Rattle.std.proofs.Common.{◌≡◌, Bool, List, length, take}
use Rattle.bool_diagrams.specs.Cubes.{covered, truth_rows}
use Rattle.bool_diagrams.specs.Rows.{IsDiagram, Keeps, ReadsBelow}
use Rattle.truth_rows.proofs.of_cubes.cube_rows.Given as goal

abbrev pub invariant-loop-cube : goal.invariant-loop-cube
invariant-loop-cube l =
    record {
      keeps : Keeps l.fn.table l.table;
      known : IsDiagram l.table l.rows;
      reads : ReadsBelow l.table l.rows l.width;
      rows : (row : List Bool) → length row ≡ l.width → truth_rows l.table l.rows row ≡ covered (take l.cube-index l.cubes) row;
    }
