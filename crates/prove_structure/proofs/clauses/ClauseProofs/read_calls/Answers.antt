use Rattle.std.proofs.Common.{◌∙◌, sym, ap, arith, add-one, ◌+◌}
use Rattle.fact_reading.proofs.LoopLemmas.{length_more, part_err}
use Rattle.prove_structure.proofs.LoopLemmas.{calls_end, calls_err, calls_more}
use Rattle.prove_structure.proofs.clauses.ClauseProofs.read_calls.Goals as goal

pub returns-in_err-items : goal.returns-in_err-items
returns-in_err-items g c =
    let read = rw (c.lists_of_call-own.ensures, c.len.ensures, c.loop-call.invariant.counted) at c.in_err-items.ensures in
    part_err c.from_residual.result _ _ _ c.from_residual.ensures read λ w bad.
    sym c.loop-call.invariant.value ∙ calls_err _ _ _ _ _ _ c.loop-call.proofs _ _ _ _ _ c.loop-call-test.true c.call-item.is w bad

pub loop-call-preserved : goal.loop-call-preserved
loop-call-preserved g c =
    let read = rw (c.lists_of_call-own.ensures, c.len.ensures, c.loop-call.invariant.counted) at c.in_ok-items.ensures in
    record {
      counted = rw c.in_ok-push.ensures.ok (length_more c.loop-call.proofs _ ∙ omega (arith, c.loop-call.invariant.counted));
      few = omega (arith, c.loop-call.invariant.few);
      value = rw c.in_ok-push.ensures.ok
          (calls_more _ _ _ _ _ _ c.loop-call.proofs _ _ _ _ _ c.loop-call-test.true c.call-item.is _ _ _ _ (add-one c.loop-call.call-index)
          (ap (λ more. c.loop-call.rows + more) (c.from-rows.ensures ∙ c.rows_of.ensures)) read
          ∙ c.loop-call.invariant.value);
    }

pub returns : goal.returns
returns g c = sym c.loop-call.invariant.value ∙ calls_end _ _ _ _ _ _ c.loop-call.proofs _ _ _ _ c.loop-call-test.false
