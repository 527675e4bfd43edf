use Rattle.std.proofs.Common.{rules, arith}
use Rattle.std.specs.Int.{w128}
use Rattle.std.specs.Prelude.{FitsSigned}
use Rattle.std.proofs.lemmas.Int.{to_z-of_z}
use Rattle.exact128.proofs.FractionSums.{IsSum, sum_is}
use Rattle.exact128.proofs.FractionFits.{sum_left_wide, sum_right_wide, sum_wide, sum_bottom_wide, sum_made}
use Rattle.rational128.proofs.ratio.Ratio.add.Goals as goal

pub returns-in_default-clause-exact : goal.returns-in_default-clause-exact
returns-in_default-clause-exact c =
    let fa : FitsSigned w128 c.args.self.num = search rules in
    let fb : FitsSigned w128 c.args.self.den = search rules in
    let fd : FitsSigned w128 c.args.other.den = search rules in
    sum_left_wide c.args.self.num c.args.self.den c.args.other.num c.args.other.den c.shared-both.result (simp to_z-of_z at c.shared-both.ensures.value) (simp to_z-of_z at c.in_default.ensures)

pub returns-in_default-scaled-clause-exact : goal.returns-in_default-scaled-clause-exact
returns-in_default-scaled-clause-exact c =
    let fb : FitsSigned w128 c.args.self.den = search rules in
    let fc : FitsSigned w128 c.args.other.num = search rules in
    let fd : FitsSigned w128 c.args.other.den = search rules in
    sum_right_wide c.args.self.num c.args.self.den c.args.other.num c.args.other.den c.shared-both.result (simp to_z-of_z at c.shared-both.ensures.value) (simp to_z-of_z at c.in_default-scaled.ensures)

pub returns-in_default-plus-clause-exact : goal.returns-in_default-plus-clause-exact
returns-in_default-plus-clause-exact c =
    let fa : FitsSigned w128 c.args.self.num = search rules in
    let fb : FitsSigned w128 c.args.self.den = search rules in
    let fc : FitsSigned w128 c.args.other.num = search rules in
    let fd : FitsSigned w128 c.args.other.den = search rules in
    let fl : FitsSigned w128 c.in-Some.left = search rules in
    let fr : FitsSigned w128 c.in-Some-scaled.right = search rules in
    let el = simp to_z-of_z at c.in-Some.ensures.1 in
    let er = simp to_z-of_z at c.in-Some-scaled.ensures.1 in
    sum_wide _ _ _ _ _ _ _ (simp to_z-of_z at c.shared-both.ensures.value) el er (simp to_z-of_z at c.in_default-plus.ensures)

pub returns-in_default-scaled-2-clause-exact : goal.returns-in_default-scaled-2-clause-exact
returns-in_default-scaled-2-clause-exact c = grind (arith, to_z-of_z, sum_bottom_wide)

pub invariant_of-result : goal.invariant_of-result
invariant_of-result c =
    let fa : FitsSigned w128 c.args.self.num = search rules in
    let fb : FitsSigned w128 c.args.self.den = search rules in
    let fc : FitsSigned w128 c.args.other.num = search rules in
    let fd : FitsSigned w128 c.args.other.den = search rules in
    let fl : FitsSigned w128 c.in-Some.left = search rules in
    let fr : FitsSigned w128 c.in-Some-scaled.right = search rules in
    let fs : FitsSigned w128 c.in-Some-plus.sum = search rules in
    let fq : FitsSigned w128 c.quotient.result = search rules in
    let fe : FitsSigned w128 c.in-Some-scaled-2.den = search rules in
    let fn : FitsSigned w128 c.divided.result = search rules in
    let eg = simp to_z-of_z at c.shared-both.ensures.value in
    let el = simp to_z-of_z at c.in-Some.ensures.1 in
    let er = simp to_z-of_z at c.in-Some-scaled.ensures.1 in
    let sum = simp to_z-of_z at c.in-Some-plus.ensures.1 in
    let es = rw (el, er) at sum in
    let fits = rw (← sum) at (simp to_z-of_z at c.in-Some-plus.ensures.0) in
    let eh = rw (simp to_z-of_z at c.unsigned_abs.ensures.value) at c.gcd-again.ensures.value in
    let ed = rw (simp to_z-of_z at c.quotient.ensures) at (simp to_z-of_z at c.in-Some-scaled-2.ensures.1) in
    let en = simp to_z-of_z at c.divided.ensures in
    let is : IsSum c.args.self.num c.args.self.den c.args.other.num c.args.other.den c.divided.result c.in-Some-scaled-2.den =
    sum_is _ _ _ _ c.in-Some-plus.sum _ _ c.shared-both.result c.gcd-again.result c.args.self.positive c.args.other.positive c.args.self.reduced c.args.other.reduced eg es fits eh ed en in
    simp to_z-of_z (record { positive = is.positive; num_fits = is.num_fits; reduced = is.reduced })

pub returns-clause-value : goal.returns-clause-value
returns-clause-value c =
    let fa : FitsSigned w128 c.args.self.num = search rules in
    let fb : FitsSigned w128 c.args.self.den = search rules in
    let fc : FitsSigned w128 c.args.other.num = search rules in
    let fd : FitsSigned w128 c.args.other.den = search rules in
    let fl : FitsSigned w128 c.in-Some.left = search rules in
    let fr : FitsSigned w128 c.in-Some-scaled.right = search rules in
    let fs : FitsSigned w128 c.in-Some-plus.sum = search rules in
    let fq : FitsSigned w128 c.quotient.result = search rules in
    let fe : FitsSigned w128 c.in-Some-scaled-2.den = search rules in
    let fn : FitsSigned w128 c.divided.result = search rules in
    let eg = simp to_z-of_z at c.shared-both.ensures.value in
    let el = simp to_z-of_z at c.in-Some.ensures.1 in
    let er = simp to_z-of_z at c.in-Some-scaled.ensures.1 in
    let sum = simp to_z-of_z at c.in-Some-plus.ensures.1 in
    let es = rw (el, er) at sum in
    let fits = rw (← sum) at (simp to_z-of_z at c.in-Some-plus.ensures.0) in
    let eh = rw (simp to_z-of_z at c.unsigned_abs.ensures.value) at c.gcd-again.ensures.value in
    let ed = rw (simp to_z-of_z at c.quotient.ensures) at (simp to_z-of_z at c.in-Some-scaled-2.ensures.1) in
    let en = simp to_z-of_z at c.divided.ensures in
    let is : IsSum c.args.self.num c.args.self.den c.args.other.num c.args.other.den c.divided.result c.in-Some-scaled-2.den =
    sum_is _ _ _ _ c.in-Some-plus.sum _ _ c.shared-both.result c.gcd-again.result c.args.self.positive c.args.other.positive c.args.self.reduced c.args.other.reduced eg es fits eh ed en in
    simp to_z-of_z is.value

pub returns-clause-exact : goal.returns-clause-exact
returns-clause-exact c =
    let fa : FitsSigned w128 c.args.self.num = search rules in
    let fb : FitsSigned w128 c.args.self.den = search rules in
    let fc : FitsSigned w128 c.args.other.num = search rules in
    let fd : FitsSigned w128 c.args.other.den = search rules in
    let fl : FitsSigned w128 c.in-Some.left = search rules in
    let fr : FitsSigned w128 c.in-Some-scaled.right = search rules in
    let fs : FitsSigned w128 c.in-Some-plus.sum = search rules in
    let fq : FitsSigned w128 c.quotient.result = search rules in
    let fe : FitsSigned w128 c.in-Some-scaled-2.den = search rules in
    let fn : FitsSigned w128 c.divided.result = search rules in
    let eg = simp to_z-of_z at c.shared-both.ensures.value in
    let el = simp to_z-of_z at c.in-Some.ensures in
    let er = simp to_z-of_z at c.in-Some-scaled.ensures in
    let sum = simp to_z-of_z at c.in-Some-plus.ensures.1 in
    let es = rw (el.1, er.1) at sum in
    let fits = rw (← sum) at (simp to_z-of_z at c.in-Some-plus.ensures.0) in
    let eh = rw (simp to_z-of_z at c.unsigned_abs.ensures.value) at c.gcd-again.ensures.value in
    let bottom = simp to_z-of_z at c.in-Some-scaled-2.ensures in
    let en = simp to_z-of_z at c.divided.ensures in
    simp to_z-of_z
    (sum_made c.args.self.num c.args.self.den c.args.other.num c.args.other.den c.in-Some-plus.sum c.quotient.result c.divided.result c.in-Some-scaled-2.den c.shared-both.result c.gcd-again.result
    eg es eh (simp to_z-of_z at c.quotient.ensures) el.0 er.0 fits bottom.0 bottom.1 en)
