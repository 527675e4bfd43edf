use Rattle.std.proofs.Common.{◌∙◌}
use Rattle.fact_reading.proofs.LoopLemmas.{fills_err, fills_last}
use Rattle.prove_structure.proofs.PartsLemmas.{drops_err, floors_err, descent_read}
use Rattle.prove_structure.proofs.reading.descent_into.Goals as goal

pub returns-in_err-rest-2 : goal.returns-in_err-rest-2
returns-in_err-rest-2 c =
    fills_err c.from_residual-in_err-rest-2.result _ _ _ _ _ c.from_residual-in_err-rest-2.ensures c.in_err-rest-2.ensures λ w bad.
    drops_err _ _ _ _ _ _ _ (c.from-clauses.ensures ∙ c.clauses.ensures.count) _ _ _ c.in_ok-rest.ensures c.as_slice.ensures w bad

pub returns : goal.returns
returns c =
    fills_last c.each_into-2.result _ _ _ _ (rw (c.as_slice-2.ensures, ← c.as_slice.ensures) at c.each_into-2.ensures)
    (λ s read. descent_read _ _ _ _ _ _ _ (c.from-clauses.ensures ∙ c.clauses.ensures.count) _ _ _ c.in_ok-rest.ensures c.as_slice.ensures _ _ c.in_ok-rest-2.ensures _ _ read)
    (λ w bad. floors_err _ _ _ _ _ _ _ (c.from-clauses.ensures ∙ c.clauses.ensures.count) _ _ _ c.in_ok-rest.ensures c.as_slice.ensures _ _ c.in_ok-rest-2.ensures w bad)
