use Rattle.std.proofs.Common.{ap}
use Rattle.linear_rows.specs.Plain.{plain_row}
use Rattle.redundant_rows.proofs.InsertionLemmas.{row_kept}
use Rattle.redundant_rows.proofs.RowLists.{still_wide}
use Rattle.redundant_rows.proofs.inserting.keep.Goals as goal

pub returns-clause-insertion : goal.returns-clause-insertion
returns-clause-insertion c =
    let n = c.args.rows.now.width in
    let kept = c.args.insertion.kept in
    let new = c.push.new.self in
    let row = c.get-row.result.now in
    let h = c.requires.insertion in
    row_kept n c.args.rows.now.list c.args.insertion.marks.items kept new c.args.place row c.in_ok-copy.field-0 c.get-row.ensures c.requires.waiting
    c.push.ensures.width (still_wide kept new n h.width c.push.ensures.width c.push.ensures.rows h.widths) c.in_ok-push.ensures.ok (ap plain_row c.in_ok-copy.ensures) h
