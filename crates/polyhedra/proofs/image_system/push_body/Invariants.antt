use Rattle.std.proofs.Common.{◌≡◌, ◌++◌, drop, map}
use Rattle.linear_rows.specs.Plain.{plain_rows, HaveWidth}
use Rattle.linear_rows.specs.Systems.{over_variables}
use Rattle.polyhedra.proofs.image_system.push_body.Given as goal

abbrev pub invariant-loop-row : goal.invariant-loop-row
invariant-loop-row l = record {
  width : l.rows.width ≡ l.fn.rows.width;
  widths : HaveWidth l.fn.rows.width l.rows.list;
  rows : plain_rows l.rows.list ++ map (over_variables l.arity) (plain_rows (drop l.row-index l.body.list)) ≡ plain_rows l.fn.rows.list ++ map (over_variables l.arity) (plain_rows l.body.list);
}
