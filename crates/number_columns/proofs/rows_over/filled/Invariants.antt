use Rattle.std.proofs.Common.{◌≡◌, map, take}
use Rattle.linear_rows.specs.Plain.{plain_rows}
use Rattle.termination_model.specs.columns.ColumnRows.{or_zeros}
use Rattle.number_columns.specs.ColumnLists.{plain_columns}
use Rattle.number_columns.proofs.rows_over.filled.Given as goal

abbrev pub invariant-loop-i : goal.invariant-loop-i
invariant-loop-i l = record {
  width : l.rows.width ≡ l.width;
  rows : plain_rows l.rows.list ≡ map (or_zeros l.width) (take l.i (plain_columns l.list));
}
