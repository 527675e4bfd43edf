use Rattle.std.proofs.Common.{◌≡◌, take}
use Rattle.linear_rows.specs.Plain.{plain_rows, HaveWidth}
use Rattle.sparse_rows.proofs.converting.rows_of.Given as goal

abbrev pub invariant-loop-i : goal.invariant-loop-i
invariant-loop-i l = record {
  rows : plain_rows l.rows.list ≡ take l.i l.lines;
  width : l.rows.width ≡ l.width;
  long : HaveWidth l.rows.width l.rows.list;
}
