use Rattle.std.proofs.Common.{◌≡◌, ◌<◌, ◌++◌, length, slice_get, Some, true, ap, sym, ◌∙◌, arith}
use Rattle.number_lists.proofs.Grouped.{point_gone}
use Rattle.number_lists.proofs.Tracked.{gone_at}
use Rattle.number_lists.proofs.grouping.other_points.Goals as goal

pub loop-i-preserved-then-gone-i : goal.loop-i-preserved-then-gone-i
loop-i-preserved-then-gone-i c =
    let τs = c.args.transitions.now in
    let gone = c.args.gone.now in
    let i = c.loop-i.i in
    let lt : i < length τs = omega arith in
    let at : slice_get gone i ≡ Some true = gone_at gone i true (omega (arith, c.requires)) c.if-gone-i.true in
    ap (λ s. c.loop-i.points ++ s) (sym (point_gone i τs gone c.loop-i.left.now i lt at)) ∙ c.loop-i.invariant
