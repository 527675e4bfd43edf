use Rattle.std.proofs.Common.{◌≡◌, ◌++◌, drop}
use Rattle.linear_rows.specs.Plain.{plain_rows, HaveWidth}
use Rattle.linear_rows.specs.Systems.{equalities}
use Rattle.polyhedra.proofs.image_system.push_equalities.Given as goal

abbrev pub invariant-loop-i : goal.invariant-loop-i
invariant-loop-i l = record {
  width : l.rows.width ≡ l.fn.rows.width;
  widths : HaveWidth l.fn.rows.width l.rows.list;
  rows : plain_rows l.rows.list ++ equalities l.arity l.i (plain_rows (drop l.i l.head.list)) ≡ plain_rows l.fn.rows.list ++ equalities l.arity 0 (plain_rows l.head.list);
}
