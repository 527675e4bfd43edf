use Rattle.std.proofs.Common.{◌≡◌, ◌++◌, ◌-◌, ◌+◌}
use Rattle.linear_rows.specs.Plain.{plain_rows, HaveWidth}
use Rattle.linear_rows.specs.Systems.{naturals}
use Rattle.polyhedra.proofs.image_system.push_naturals.Given as goal

abbrev pub invariant-loop-i : goal.invariant-loop-i
invariant-loop-i l = record {
  width : l.rows.width ≡ l.fn.rows.width;
  widths : HaveWidth l.fn.rows.width l.rows.list;
  rows : plain_rows l.rows.list ++ naturals (l.count - l.i) (l.from + l.i) l.fn.rows.width ≡ plain_rows l.fn.rows.list ++ naturals l.count l.from l.fn.rows.width;
}
