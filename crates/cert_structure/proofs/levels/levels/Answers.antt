use Rattle.std.proofs.Common.{◌∙◌, sym, arith, ◌+◌, ◌-◌, length}
use Rattle.cert_structure.proofs.LoopLemmas.{levels_end, levels_err, levels_more}
use Rattle.fact_reading.proofs.LoopLemmas.{part_err}
use Rattle.cert_structure.proofs.levels.levels.Goals as goal

pub returns-in_err-items : goal.returns-in_err-items
returns-in_err-items c =
    part_err c.from_residual.result _ _ _ c.from_residual.ensures (rw c.as_slice.ensures at c.in_err-items.ensures) λ w bad.
    sym c.loop-pred.invariant ∙ levels_err _ _ _ _ _ _ _ (length c.args.calls.now.p.now.preds - (c.loop-pred.pred + 1)) w (omega (arith, c.preds.ensures.count)) bad

pub loop-pred-preserved : goal.loop-pred-preserved
loop-pred-preserved c =
    let read = rw c.as_slice.ensures at c.in_ok-items.ensures in
    rw c.in_ok-push.ensures.ok
    (levels_more _ _ _ c.loop-pred.levels c.loop-pred.pred (length c.args.calls.now.p.now.preds - c.loop-pred.pred) _ (length c.args.calls.now.p.now.preds - (c.loop-pred.pred + 1)) (c.loop-pred.pred + 1) _ _ (omega (arith, c.preds.ensures.count)) (omega arith) read
    ∙ c.loop-pred.invariant)

pub returns : goal.returns
returns c = sym c.loop-pred.invariant ∙ levels_end _ _ _ c.loop-pred.levels _ _ _ (omega (arith, c.preds.ensures.count))
