use Rattle.std.proofs.Common.{◌∙◌, sym, arith, ◌+◌, ◌-◌}
use Rattle.cert_structure.proofs.LoopLemmas.{points_end, points_err, points_more}
use Rattle.fact_reading.proofs.LoopLemmas.{part_err}
use Rattle.cert_structure.proofs.refutations.points.Goals as goal

pub returns-in_err-point : goal.returns-in_err-point
returns-in_err-point g c =
    part_err c.from_residual.result _ _ _ c.from_residual.ensures c.in_err-point.ensures λ w bad.
    sym c.loop.invariant ∙ points_err _ c.loop.points _ _ _ (c.args.count - (c.loop.counter + 1)) w (omega arith) bad

pub loop-preserved : goal.loop-preserved
loop-preserved g c =
    rw c.in_ok-push.ensures.ok
    (points_more _ c.loop.points (c.loop.last.clause, c.loop.last.call) (c.args.count - c.loop.counter) _ (c.args.count - (c.loop.counter + 1)) _ _ (omega arith) c.in_ok-point.ensures
    ∙ c.loop.invariant)

pub returns : goal.returns
returns g c = sym c.loop.invariant ∙ points_end _ c.loop.points _ _ _ (omega arith)
