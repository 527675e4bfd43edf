use Rattle.std.proofs.Common.{◌∙◌, int_lt, map}
use Rattle.exact128.specs.Sums.{dot}
use Rattle.exact384.specs.Value.{value_of}
use Rattle.simplex.proofs.WidePoints.{minus_one}
use Rattle.simplex.proofs.wide_point.WidePoint.meets.Goals as goal

pub returns : goal.returns
returns c = c.is_sum_above.ensures ∙ (λ j. int_lt (minus_one j) (dot (map value_of (c.as_slice.ensures.value j)) c.args.numbers.now))
