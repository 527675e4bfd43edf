use Rattle.sparse_rows.proofs.WalkLemmas.{stands_first, stands_next}
use Rattle.sparse_rows.proofs.part.after_first.Goals as goal

pub returns : goal.returns
returns c = stands_next c.args.parts.now c.args.tail 0 c.place_at.result c.next.result.1 (stands_first c.args.parts.now c.args.tail c.place_at.result c.place_at.ensures.index c.place_at.ensures.before) c.next.ensures.rest
