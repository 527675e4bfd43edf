use Rattle.std.proofs.Common.{◌≡◌, ◌++◌, drop, map}
use Rattle.linear_rows.specs.Plain.{plain_rows, HaveWidth}
use Rattle.linear_rows.specs.Systems.{in_first}
use Rattle.polyhedra.proofs.join_system.push_first.Given as goal

abbrev pub invariant-loop-row : goal.invariant-loop-row
invariant-loop-row l = record {
  width : l.rows.width ≡ l.fn.rows.width;
  widths : HaveWidth l.fn.rows.width l.rows.list;
  rows : plain_rows l.rows.list ++ map (in_first l.first.width) (plain_rows (drop l.row-index l.first.list)) ≡ plain_rows l.fn.rows.list ++ map (in_first l.first.width) (plain_rows l.first.list);
}
