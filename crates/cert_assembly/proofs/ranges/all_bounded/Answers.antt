use Rattle.std.proofs.Common.{arith}
use Rattle.termination_model.proofs.Lists.{at_place, from_places, place_below}
use Rattle.cert_assembly.proofs.PlaceLaws.{places_more}
use Rattle.cert_assembly.proofs.ranges.all_bounded.Goals as goal

pub loop-item-preserved : goal.loop-item-preserved
loop-item-preserved g c =
    let items = c.args.items.now in
    let n = c.loop-item.item-index in
    let x = c.item-item.result in
    places_more g.T.Bounded.is_below items n x (at_place items n x c.loop-item-test.true c.item-item.is) c.bounded.ensures c.loop-item.invariant

pub returns : goal.returns
returns g c =
    let items = c.args.items.now in
    from_places g.T.Bounded.is_below items (λ i x e. let less = place_below items i x e in c.loop-item.invariant i x (omega (arith, less)) e)
