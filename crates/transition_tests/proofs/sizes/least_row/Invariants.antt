use Rattle.std.proofs.Common.{◌≡◌, take}
use Rattle.number_columns.specs.ColumnLists.{plain_columns}
use Rattle.termination_model.specs.columns.ColumnRows.{least}
use Rattle.transition_tests.proofs.sizes.least_row.Given as goal

abbrev pub invariant-loop-i : goal.invariant-loop-i
invariant-loop-i l = l.coeffs ≡ least (take l.i l.row.coeffs) (take l.i (plain_columns l.heads))
