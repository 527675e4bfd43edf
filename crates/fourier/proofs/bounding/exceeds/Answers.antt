use Rattle.std.proofs.Common.{◌∙◌, ap, Some, sym}
use Rattle.std.proofs.lemmas.Result.{err_from_is_err_and}
use Rattle.rational128.specs.Formulas.{fraction_of}
use Rattle.exact128.proofs.FractionFits.{exceeds_none}
use Rattle.fourier.proofs.BoundLemmas.{exceeds_is_gt}
use Rattle.fourier.proofs.bounding.exceeds.Goals as goal

pub returns : goal.returns
returns c =
    exceeds_is_gt (fraction_of c.args.x) (fraction_of c.args.y) c.in_ok-cmp.field-0 c.args.x.positive c.args.y.positive c.in_ok-cmp.ensures.fits c.in_ok-cmp.ensures.value ∙ ap Some (sym c.is_gt.ensures)

pub returns-in_err-cmp : goal.returns-in_err-cmp
returns-in_err-cmp c = rw (err_from_is_err_and c.from_residual.result c.from_residual.ensures.1).1 (exceeds_none (fraction_of c.args.x) (fraction_of c.args.y) c.in_err-cmp.ensures.wide)
