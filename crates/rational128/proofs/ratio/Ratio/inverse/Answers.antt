use Rattle.std.proofs.Common.{rules, pos, arith, refl, ap, ◌∙◌}
use Rattle.std.specs.Int.{w128}
use Rattle.std.specs.Prelude.{FitsSigned}
use Rattle.std.proofs.lemmas.Int.{to_z-of_z, to_z_pos, ints}
use Rattle.exact128.specs.Fractions.{signed_of}
use Rattle.exact128.proofs.FractionQuotients.{IsInverse, inverse_is}
use Rattle.rational128.proofs.ratio.Ratio.inverse.Goals as goal

pub invariant_of-result : goal.invariant_of-result
invariant_of-result c =
    let fc : FitsSigned w128 c.args.self.num = search rules in
    let fd : FitsSigned w128 c.args.self.den = search rules in
    let fn : FitsSigned w128 c.signed.result = search rules in
    let ed = simp to_z-of_z at c.unsigned_abs.ensures.value in
    let ec = simp to_z-of_z at c.unsigned_abs-2.ensures.value in
    let en = (simp to_z-of_z at c.signed.ensures) ∙ ap (λ k. signed_of k (pos 1) c.args.self.num) ed in
    let is : IsInverse c.args.self.num c.args.self.den c.signed.result (pos c.unsigned_abs-2.result) =
    inverse_is _ _ _ _ c.requires c.args.self.reduced en (rw ec refl) in
    let low = to_z_pos w128 c.unsigned_abs-2.result (omega arith) in
    simp (to_z-of_z, low) (record { positive = is.positive; num_fits = omega (arith, ints, is.size, fd.sfits); reduced = is.reduced })
