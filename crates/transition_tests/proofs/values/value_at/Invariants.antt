use Rattle.std.proofs.Common.{◌+◌}
use Rattle.linear_rows.specs.Plain.{plain_row}
use Rattle.linear_rows.proofs.ColumnSums.{IsSumTo}
use Rattle.number_tests.specs.Refuting.{numbers_of}
use Rattle.transition_tests.proofs.values.value_at.Given as goal

abbrev pub invariant-loop-x : goal.invariant-loop-x
invariant-loop-x l = IsSumTo (l.x + 1) (plain_row l.row) (numbers_of l.point) l.sum
