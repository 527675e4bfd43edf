use Rattle.std.proofs.Common.{◌∙◌, List, map, sym, subst}
use Rattle.exact384.specs.declared.integer.Integer.{Integer}
use Rattle.exact384.specs.Value.{value_of}
use Rattle.simplex.specs.Telling.{IsWidePoint}
use Rattle.simplex.proofs.WidePoints.{point_of}
use Rattle.simplex.proofs.wide_point.WidePoint.is_point.Goals as goal

pub returns-then-is_above_zero : goal.returns-then-is_above_zero
returns-then-is_above_zero c = λ e.
    let slice = c.as_slice-numbers.result.now in
    subst (λ (xs : List Integer). IsWidePoint c.args.width (map value_of xs)) c.as_slice-numbers.ensures.value (point_of c.args.width slice _ c.if-numbers-width.false (sym c.is_above_zero.ensures ∙ c.if-is_above_zero.true) (c.are_natural.ensures e))
