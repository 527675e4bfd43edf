use Rattle.std.proofs.Common.{◌≡◌, ◌++◌, drop, map}
use Rattle.linear_rows.specs.Plain.{plain_rows, HaveWidth}
use Rattle.linear_rows.specs.Systems.{in_second}
use Rattle.polyhedra.proofs.join_system.push_second.Given as goal

abbrev pub invariant-loop-row : goal.invariant-loop-row
invariant-loop-row l = record {
  width : l.rows.width ≡ l.fn.rows.width;
  widths : HaveWidth l.fn.rows.width l.rows.list;
  rows : plain_rows l.rows.list ++ map in_second (plain_rows (drop l.row-index l.second.list)) ≡ plain_rows l.fn.rows.list ++ map in_second (plain_rows l.second.list);
}
