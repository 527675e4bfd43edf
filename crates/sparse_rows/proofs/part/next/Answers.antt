use Rattle.std.proofs.Common.{◌≡◌, ◌<◌, length, get_or, arith}
use Rattle.sparse_rows.proofs.SparseLemmas.{nothing, part_at}
use Rattle.sparse_rows.proofs.WalkLemmas.{next_number}
use Rattle.sparse_rows.proofs.part.next.Goals as goal

pub returns-clause-rest : goal.returns-clause-rest
returns-clause-rest c =
    let parts = c.args.parts.now in
    let within : c.args.place.index < length parts = omega (arith, c.if-place-parts.false) in
    let none : c.args.place.before ≡ 0 = omega (arith, c.if-place-gt0.false) in
    let is = next_number parts c.args.tail c.args.place c.place_at.result (get_or parts c.args.place.index nothing) none within (part_at parts c.args.place.index within) c.place_at.ensures.index c.place_at.ensures.before in
    is.rest
