use Rattle.std.proofs.Common.{sym}
use Rattle.std.proofs.lemmas.Option.{get_or_from_slice_get}
use Rattle.redundant_rows.proofs.MultipleLemmas.{natural_implied}
use Rattle.redundant_rows.proofs.undominated.is_dominated.Goals as goal

pub returns-then-is_natural : goal.returns-then-is_natural
returns-then-is_natural c = λ _.
    let rows = c.args.rows.now in
    natural_implied rows.width c.args.place rows.list c.get-row.result.now c.requires.width c.requires.place (sym (get_or_from_slice_get rows.list c.args.place c.get-row.result.now c.get-row.result.now c.get-row.ensures)) (c.is_natural.ensures c.if-is_natural.true)
