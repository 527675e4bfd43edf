use Rattle.std.proofs.Common.{◌≡◌, ◌++◌, ◌+◌, ◌-◌}
use Rattle.linear_rows.specs.Plain.{plain_rows, HaveWidth}
use Rattle.linear_rows.specs.Systems.{naturals, differences}
use Rattle.polyhedra.proofs.join_system.push_columns.Given as goal

abbrev pub invariant-loop-i : goal.invariant-loop-i
invariant-loop-i l = record {
  width : l.rows.width ≡ l.fn.rows.width;
  widths : HaveWidth l.fn.rows.width l.rows.list;
  rows : plain_rows l.rows.list ++ differences l.arity (l.arity - l.i) l.i ≡ plain_rows l.fn.rows.list ++ naturals l.arity l.arity (l.arity + l.arity + 1) ++ differences l.arity l.arity 0;
}
