use Rattle.std.proofs.Common.{◌≡◌, take}
use Rattle.linear_rows.specs.Plain.{plain_rows}
use Rattle.linear_rows.specs.Rows.{column}
use Rattle.simplex.proofs.wide_multipliers.put_column.Given as goal

abbrev pub invariant-loop-row : goal.invariant-loop-row
invariant-loop-row l = l.numbers.items ≡ column (plain_rows (take l.row-index l.rows.list)) l.place
