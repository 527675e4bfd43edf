use Rattle.std.proofs.Common.{ℤ, List}
use Rattle.linear_rows.specs.Plain.{plain_rows}
use Rattle.number_tests.specs.SystemPoints.{ValueHolds}
use Rattle.transition_tests.proofs.Places.{UpTo}
use Rattle.transition_tests.proofs.points.rows_hold.Given as goal

abbrev pub invariant-loop-row : goal.invariant-loop-row
invariant-loop-row l = UpTo (λ _ (r : List ℤ). ValueHolds l.point r) (plain_rows l.rows.list) l.row-index
