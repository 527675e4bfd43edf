use Rattle.std.proofs.Common.{◌↔◌, ℤ, IsTrue, IfOk, List, Option, sym, subst}
use Rattle.linear_rows.specs.Plain.{plain_rows}
use Rattle.number_columns.specs.ColumnLists.{HaveLength, plain_columns}
use Rattle.number_tests.specs.Drops.{fall_number}
use Rattle.transition_tests.specs.Targets.{IsTargetShown}
use Rattle.transition_tests.proofs.JoinedRows.{fall_over, joined_lengths, same_many}
use Rattle.transition_tests.proofs.dropping.fall_shown.Goals as goal

pub row_shown-requires-clause-same : goal.row_shown-requires-clause-same
row_shown-requires-clause-same c = same_many c.args.joined.now c.args.transition.now c.in_ok-row.row (fall_number c.args.falls) c.args.head.now c.args.call.now c.requires.joined c.in_ok-row.ensures c.requires.head.each c.requires.call.each

pub row_shown-requires-clause-lengths : goal.row_shown-requires-clause-lengths
row_shown-requires-clause-lengths c =
    let τ = c.args.transition.now in
    subst (HaveLength τ.rows.width) (sym c.requires.joined) (joined_lengths τ.rows.width (plain_columns τ.head.columns) (plain_columns τ.call.columns) c.requires.lengths.head c.requires.lengths.call)

pub returns : goal.returns
returns c =
    let τ = c.args.transition.now in
    subst (λ (o : Option (List ℤ)). IfOk c.row_shown.result (λ yes. IsTrue yes ↔ IsTargetShown (plain_rows τ.rows.list) τ.rows.width o c.args.by.now))
    (fall_over c.args.joined.now τ c.in_ok-row.row (fall_number c.args.falls) c.args.head.now c.args.call.now c.requires.joined c.in_ok-row.ensures c.requires.head.each c.requires.lengths.head c.requires.lengths.call)
    c.row_shown.ensures
