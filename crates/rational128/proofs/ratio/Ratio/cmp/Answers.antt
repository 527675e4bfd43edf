use Rattle.std.proofs.Common.{arith}
use Rattle.std.proofs.lemmas.Int.{to_z-of_z}
use Rattle.exact128.proofs.FractionOrders.{same_order}
use Rattle.rational128.proofs.ratio.Ratio.cmp.Goals as goal

pub returns-clause-value : goal.returns-clause-value
returns-clause-value c = let l = c.in-Some.ensures in let r = c.in-Some-scaled.ensures in let o = c.cmp.ensures in grind (arith, to_z-of_z, same_order)
