use Rattle.std.proofs.Common.{◌≡◌, ◌++◌, drop}
use Rattle.linear_rows.specs.Plain.{plain_rows, HaveWidth}
use Rattle.redundant_rows.specs.Inserting.{kept_of}
use Rattle.redundant_rows.proofs.inserting.kept_rows.Given as goal

abbrev pub invariant-loop-place : goal.invariant-loop-place
invariant-loop-place l = record {
  width : l.all.width ≡ l.rows.width;
  widths : HaveWidth l.rows.width l.all.list;
  rows : plain_rows l.all.list ++ kept_of (drop l.place l.marks) (plain_rows (drop l.place l.rows.list)) ≡ kept_of l.marks (plain_rows l.rows.list);
}
