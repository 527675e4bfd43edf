use Rattle.exact384.specs.Value.{value_of}
use Rattle.simplex.proofs.wide_point.is_above_zero.Goals as goal

pub returns : goal.returns
unfolding value_of
returns c = c.is_less.ensures
