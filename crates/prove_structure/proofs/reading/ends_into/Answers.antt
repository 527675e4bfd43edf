use Rattle.std.proofs.Common.{◌∙◌}
use Rattle.fact_reading.proofs.LoopLemmas.{fills_last}
use Rattle.prove_structure.proofs.PartsLemmas.{stuck_err, ends_read}
use Rattle.prove_structure.proofs.reading.ends_into.Goals as goal

pub returns : goal.returns
returns c =
    fills_last c.each_into-2.result _ _ _ _ c.each_into-2.ensures
    (λ s read. ends_read _ _ _ _ _ _ (c.from-preds.ensures ∙ c.preds.ensures.count) _ _ c.in_ok-rest.ensures _ _ read)
    (λ w bad. stuck_err _ _ _ _ _ _ (c.from-preds.ensures ∙ c.preds.ensures.count) _ _ c.in_ok-rest.ensures w bad)
