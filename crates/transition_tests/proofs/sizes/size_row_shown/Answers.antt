use Rattle.std.proofs.Common.{◌↔◌, ℤ, IsTrue, IfOk, List, length, ap, subst, arith}
use Rattle.linear_rows.specs.Plain.{plain_rows}
use Rattle.number_columns.specs.ColumnLists.{plain_columns}
use Rattle.termination_model.specs.columns.ColumnRows.{row_over}
use Rattle.transition_tests.specs.Targets.{IsTargetShown}
use Rattle.transition_tests.proofs.LeastRows.{length_least}
use Rattle.transition_tests.proofs.sizes.size_row_shown.Goals as goal

pub row_shown-requires-clause-same : goal.row_shown-requires-clause-same
row_shown-requires-clause-same c =
    let long = ap length c.in_ok-least.ensures in
    let least = length_least c.args.row.now.coeffs (plain_columns c.args.heads.now) in
    omega (arith, long, least, c.requires.same)

pub returns : goal.returns
returns c =
    let n = c.args.rows.now.width in
    subst (λ (row : List ℤ). IfOk c.row_shown.result (λ yes. IsTrue yes ↔ IsTargetShown (plain_rows c.args.rows.now.list) n (row_over n (plain_columns c.args.heads.now) row) c.args.by.now)) c.in_ok-least.ensures c.row_shown.ensures
