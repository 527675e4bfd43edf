use Rattle.std.proofs.Common.{subst}
use Rattle.linear_rows.specs.Plain.{plain_row}
use Rattle.number_columns.specs.ColumnLists.{IsRowOver, plain_columns}
use Rattle.termination_model.specs.columns.ColumnRows.{row_over as over}
use Rattle.transition_tests.proofs.TargetLaws.{there_long}
use Rattle.transition_tests.proofs.targets.row_shown.Goals as goal

pub multipliers_flaw-requires-clause-target : goal.multipliers_flaw-requires-clause-target
multipliers_flaw-requires-clause-target c =
    let n = c.args.rows.now.width in
    let es = plain_columns c.args.columns.now in
    let row = plain_row c.args.row.now in
    there_long n es row c.in-There.target c.requires.lengths (subst (IsRowOver (over n es row)) c.in-There.is c.in_ok-target.ensures)
