use Rattle.linear_rows.proofs.ColumnSums.{IsSumTo}
use Rattle.linear_rows.specs.Rows.{column}
use Rattle.linear_rows.specs.Plain.{plain_rows}
use Rattle.linear_rows.proofs.columns.column_sum.Given as goal

abbrev pub invariant-loop-i : goal.invariant-loop-i
invariant-loop-i l = IsSumTo l.i l.multipliers (column (plain_rows l.rows) l.k) l.sum
