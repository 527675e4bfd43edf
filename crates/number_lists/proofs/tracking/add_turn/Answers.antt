use Rattle.std.proofs.Common.{◌≡◌, ◌<◌, length, slice_get, Some, true, ◌∙◌, arith}
use Rattle.number_lists.proofs.Tracked.{gone_at, skipped}
use Rattle.number_lists.proofs.tracking.add_turn.Goals as goal

pub loop-i-preserved-then-gone-i : goal.loop-i-preserved-then-gone-i
loop-i-preserved-then-gone-i c =
    let τs = c.args.transitions.now in
    let gone = c.args.gone.now in
    let i = c.loop-i.i in
    let inv = c.loop-i.invariant in
    let lt : i < length τs = omega arith in
    let at : slice_get gone i ≡ Some true = gone_at gone i true (omega (arith, c.requires.gone)) c.if-gone-i.true in
    record { long = inv.long; made = skipped c.args.leave τs gone c.loop-i.left.now c.loop-i.places.items i lt c.requires.gone inv.long at ∙ inv.made }
