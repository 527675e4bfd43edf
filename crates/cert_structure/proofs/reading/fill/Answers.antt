use Rattle.std.proofs.Common.{◌∙◌, refl}
use Rattle.fact_reading.proofs.LoopLemmas.{fills_err, fills_last}
use Rattle.cert_structure.proofs.PartsLemmas.{modes_err, rows_err, proofs_err, grounds_err, levels_err, falls_err, cubes_err, refutations_err, all_read}
use Rattle.cert_structure.proofs.reading.fill.Goals as goal

pub returns-in_err-sizes : goal.returns-in_err-sizes
returns-in_err-sizes c =
    fills_err c.from_residual.result _ _ _ _ _ c.from_residual.ensures c.in_err-sizes.ensures λ w bad.
    modes_err _ _ _ _ _ _ _ (c.from-preds.ensures ∙ c.preds.ensures.count) (c.from-clauses.ensures ∙ c.clauses.ensures.count) w bad

pub returns-in_err-proofs : goal.returns-in_err-proofs
returns-in_err-proofs c =
    fills_err c.from_residual-in_err-proofs.result _ _ _ _ _ c.from_residual-in_err-proofs.ensures c.in_err-proofs.ensures λ w bad.
    rows_err _ _ _ _ _ _ _ (c.from-preds.ensures ∙ c.preds.ensures.count) (c.from-clauses.ensures ∙ c.clauses.ensures.count)
    _ _ c.in_ok-sizes.ensures w bad

pub returns-in_err-grounds : goal.returns-in_err-grounds
returns-in_err-grounds c =
    fills_err c.from_residual-in_err-grounds.result _ _ _ _ _ c.from_residual-in_err-grounds.ensures c.in_err-grounds.ensures λ w bad.
    proofs_err _ _ _ _ _ _ _ (c.from-preds.ensures ∙ c.preds.ensures.count) (c.from-clauses.ensures ∙ c.clauses.ensures.count)
    _ _ c.in_ok-sizes.ensures
    _ _ _ c.in_ok-proofs.ensures refl w bad

pub returns-in_err-measures : goal.returns-in_err-measures
returns-in_err-measures c =
    fills_err c.from_residual-in_err-measures.result _ _ _ _ _ c.from_residual-in_err-measures.ensures c.in_err-measures.ensures λ w bad.
    grounds_err _ _ _ _ _ _ _ (c.from-preds.ensures ∙ c.preds.ensures.count) (c.from-clauses.ensures ∙ c.clauses.ensures.count)
    _ _ c.in_ok-sizes.ensures
    _ _ _ c.in_ok-proofs.ensures refl
    _ _ c.in_ok-grounds.ensures w bad

pub returns-in_err-falls : goal.returns-in_err-falls
returns-in_err-falls c =
    fills_err c.from_residual-in_err-falls.result _ _ _ _ _ c.from_residual-in_err-falls.ensures c.in_err-falls.ensures λ w bad.
    levels_err _ _ _ _ _ _ _ (c.from-preds.ensures ∙ c.preds.ensures.count) (c.from-clauses.ensures ∙ c.clauses.ensures.count)
    _ _ c.in_ok-sizes.ensures
    _ _ _ c.in_ok-proofs.ensures refl
    _ _ c.in_ok-grounds.ensures
    _ _ c.in_ok-measures.ensures w bad

pub returns-in_err-cubes : goal.returns-in_err-cubes
returns-in_err-cubes c =
    fills_err c.from_residual-in_err-cubes.result _ _ _ _ _ c.from_residual-in_err-cubes.ensures c.in_err-cubes.ensures λ w bad.
    falls_err _ _ _ _ _ _ _ (c.from-preds.ensures ∙ c.preds.ensures.count) (c.from-clauses.ensures ∙ c.clauses.ensures.count)
    _ _ c.in_ok-sizes.ensures
    _ _ _ c.in_ok-proofs.ensures refl
    _ _ c.in_ok-grounds.ensures
    _ _ c.in_ok-measures.ensures
    _ _ _ c.in_ok-falls.ensures c.as_slice.ensures w bad

pub returns-in_err-refutations : goal.returns-in_err-refutations
returns-in_err-refutations c =
    fills_err c.from_residual-in_err-refutations.result _ _ _ _ _ c.from_residual-in_err-refutations.ensures (rw (c.as_slice-2.ensures, ← c.as_slice.ensures) at c.in_err-refutations.ensures) λ w bad.
    cubes_err _ _ _ _ _ _ _ (c.from-preds.ensures ∙ c.preds.ensures.count) (c.from-clauses.ensures ∙ c.clauses.ensures.count)
    _ _ c.in_ok-sizes.ensures
    _ _ _ c.in_ok-proofs.ensures refl
    _ _ c.in_ok-grounds.ensures
    _ _ c.in_ok-measures.ensures
    _ _ _ c.in_ok-falls.ensures c.as_slice.ensures
    _ _ c.in_ok-cubes.ensures w bad

pub returns : goal.returns
returns c =
    fills_last c.each_into-6.result _ _ _ _ (rw (c.as_slice-3.ensures, ← c.as_slice.ensures) at c.each_into-6.ensures)
    (λ s read. all_read _ _ _ _ _ _ _ (c.from-preds.ensures ∙ c.preds.ensures.count) (c.from-clauses.ensures ∙ c.clauses.ensures.count)
    _ _ c.in_ok-sizes.ensures
    _ _ _ c.in_ok-proofs.ensures refl
    _ _ c.in_ok-grounds.ensures
    _ _ c.in_ok-measures.ensures
    _ _ _ c.in_ok-falls.ensures c.as_slice.ensures
    _ _ c.in_ok-cubes.ensures
    _ _ (rw (c.as_slice-2.ensures, ← c.as_slice.ensures) at c.in_ok-refutations.ensures)
    _ _ read)
    (λ w bad. refutations_err _ _ _ _ _ _ _ (c.from-preds.ensures ∙ c.preds.ensures.count) (c.from-clauses.ensures ∙ c.clauses.ensures.count)
    _ _ c.in_ok-sizes.ensures
    _ _ _ c.in_ok-proofs.ensures refl
    _ _ c.in_ok-grounds.ensures
    _ _ c.in_ok-measures.ensures
    _ _ _ c.in_ok-falls.ensures c.as_slice.ensures
    _ _ c.in_ok-cubes.ensures
    _ _ (rw (c.as_slice-2.ensures, ← c.as_slice.ensures) at c.in_ok-refutations.ensures) w bad)
