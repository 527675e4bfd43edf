use Rattle.std.proofs.Common.{arith}
use Rattle.termination_model.proofs.Lists.{at_place, by_places}
use Rattle.level_dual.specs.Vanishing.{KeepsRays}
use Rattle.level_dual.proofs.vanishing.spread_from.Goals as goal

pub returns : goal.returns
returns c = λ m keeps v.
    let calls = c.args.calls.now in
    let place = c.args.step.now.call in
    let own = c.index-calls-step.result in
    c.spread_at.ensures m (by_places (KeepsRays m) calls keeps place own (at_place calls place own (omega (arith, c.if-step-calls.false)) c.index-calls-step.is)) v
