use Rattle.std.proofs.Common.{◌∙◌, sym, arith, ◌+◌, ◌-◌, length}
use Rattle.fact_reading.proofs.LoopLemmas.{part_err}
use Rattle.prove_structure.proofs.LoopLemmas.{levels_end, levels_err, levels_more}
use Rattle.prove_structure.proofs.lists.Measured.levels.Goals as goal

pub returns-in_err-own : goal.returns-in_err-own
returns-in_err-own c =
    part_err c.from_residual.result _ _ _ c.from_residual.ensures (rw c.as_slice.ensures at c.in_err-own.ensures) λ w bad.
    sym c.loop-pred.invariant ∙ levels_err _ _ _ _ _ _ _ _ (length c.args.self.now.calls.p.now.preds - (c.loop-pred.pred + 1)) w (omega (arith, c.preds.ensures.count)) bad

pub loop-pred-preserved : goal.loop-pred-preserved
loop-pred-preserved c =
    let read = rw c.as_slice.ensures at c.in_ok-own.ensures in
    rw c.in_ok-push.ensures.ok
    (levels_more _ _ _ _ c.loop-pred.lists c.loop-pred.pred (length c.args.self.now.calls.p.now.preds - c.loop-pred.pred) _ (length c.args.self.now.calls.p.now.preds - (c.loop-pred.pred + 1)) (c.loop-pred.pred + 1) _ _ (omega (arith, c.preds.ensures.count)) (omega arith) read
    ∙ c.loop-pred.invariant)

pub returns : goal.returns
returns c = sym c.loop-pred.invariant ∙ levels_end _ _ _ _ c.loop-pred.lists _ _ _ (omega (arith, c.preds.ensures.count))
