use Rattle.cti_top.proofs.LoopLemmas.{looked_as}
use Rattle.cti_top.proofs.looping.looked.Goals as goal

pub returns : goal.returns
returns c =
    let h = c.in_ok-looked.ensures in
    looked_as c.args.source.now.program c.args.goal.now c.args.depth c.in_ok-looked.looked _ _ h.looked h.goes_on h.unbounded c.status_of.ensures c.in_ok-looked_text.ensures
