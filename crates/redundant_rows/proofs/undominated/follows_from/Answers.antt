use Rattle.std.proofs.Common.{sym}
use Rattle.std.proofs.lemmas.Option.{get_or_from_slice_get}
use Rattle.redundant_rows.proofs.MultipleLemmas.{multiple_implied}
use Rattle.redundant_rows.proofs.undominated.follows_from.Goals as goal

pub returns-in-Some : goal.returns-in-Some
returns-in-Some c = λ _.
    let rows = c.args.rows.now in
    multiple_implied rows.width c.args.place c.args.other rows.list c.get.result.now c.get-2.result.now c.in-Some.field-0.num c.in-Some.field-0.den c.requires.width c.requires.place c.requires.other c.if-other-place.false (sym (get_or_from_slice_get rows.list c.args.place c.get.result.now c.get.result.now c.get.ensures)) (sym (get_or_from_slice_get rows.list c.args.other c.get-2.result.now c.get-2.result.now c.get-2.ensures)) c.in-Some.ensures
