use Rattle.std.proofs.Common.{rules, pos, ◌/◌, ◌*ℤ◌, refl, ◌∙◌}
use Rattle.std.specs.Int.{w128}
use Rattle.std.specs.Prelude.{FitsSigned, unsigned_abs}
use Rattle.std.proofs.lemmas.Int.{to_z-of_z}
use Rattle.exact128.proofs.FractionProducts.{IsProduct, product_is, product_made, product_num_wide, product_den_wide}
use Rattle.rational128.proofs.ratio.Ratio.mul.Goals as goal

pub returns-in_default-clause-exact : goal.returns-in_default-clause-exact
returns-in_default-clause-exact c =
    let fa : FitsSigned w128 c.args.self.num = search rules in
    let fb : FitsSigned w128 c.args.self.den = search rules in
    let fc : FitsSigned w128 c.args.other.num = search rules in
    let fd : FitsSigned w128 c.args.other.den = search rules in
    let fx : FitsSigned w128 c.divided.result = search rules in
    let fy : FitsSigned w128 c.divided-2.result = search rules in
    let ex = simp to_z-of_z at c.shared-across.ensures.value in
    let ey = simp to_z-of_z at c.shared-back.ensures.value in
    let one = simp to_z-of_z at c.divided.ensures in
    let two = simp to_z-of_z at c.divided-2.ensures in
    let is : IsProduct c.args.self.num c.args.self.den c.args.other.num c.args.other.den (c.divided.result *ℤ c.divided-2.result) (pos (unsigned_abs c.args.self.den / c.shared-back.result) *ℤ pos (unsigned_abs c.args.other.den / c.shared-across.result)) =
    product_is _ _ _ _ _ _ c.shared-across.result c.shared-back.result c.args.self.positive c.args.other.positive c.args.self.reduced c.args.other.reduced ex ey (rw (one, two) refl) refl in
    product_num_wide _ _ _ _ is.lowest (simp to_z-of_z at c.in_default.ensures)

pub returns-in_default-times-clause-exact : goal.returns-in_default-times-clause-exact
returns-in_default-times-clause-exact c =
    let fa : FitsSigned w128 c.args.self.num = search rules in
    let fb : FitsSigned w128 c.args.self.den = search rules in
    let fc : FitsSigned w128 c.args.other.num = search rules in
    let fd : FitsSigned w128 c.args.other.den = search rules in
    let fx : FitsSigned w128 c.divided.result = search rules in
    let fy : FitsSigned w128 c.divided-2.result = search rules in
    let ex = simp to_z-of_z at c.shared-across.ensures.value in
    let ey = simp to_z-of_z at c.shared-back.ensures.value in
    let one = simp to_z-of_z at c.divided.ensures in
    let two = simp to_z-of_z at c.divided-2.ensures in
    let fq : FitsSigned w128 c.quotient.result = search rules in
    let fr : FitsSigned w128 c.quotient-2.result = search rules in
    let three = simp to_z-of_z at c.quotient.ensures in
    let four = simp to_z-of_z at c.quotient-2.ensures in
    let is : IsProduct c.args.self.num c.args.self.den c.args.other.num c.args.other.den (c.divided.result *ℤ c.divided-2.result) (c.quotient.result *ℤ c.quotient-2.result) =
    product_is _ _ _ _ _ _ c.shared-across.result c.shared-back.result c.args.self.positive c.args.other.positive c.args.self.reduced c.args.other.reduced ex ey (rw (one, two) refl) (rw (three, four) refl) in
    product_den_wide _ _ _ _ is.lowest (simp to_z-of_z at c.in_default-times.ensures)

pub invariant_of-result : goal.invariant_of-result
invariant_of-result c =
    let fa : FitsSigned w128 c.args.self.num = search rules in
    let fb : FitsSigned w128 c.args.self.den = search rules in
    let fc : FitsSigned w128 c.args.other.num = search rules in
    let fd : FitsSigned w128 c.args.other.den = search rules in
    let fx : FitsSigned w128 c.divided.result = search rules in
    let fy : FitsSigned w128 c.divided-2.result = search rules in
    let ex = simp to_z-of_z at c.shared-across.ensures.value in
    let ey = simp to_z-of_z at c.shared-back.ensures.value in
    let one = simp to_z-of_z at c.divided.ensures in
    let two = simp to_z-of_z at c.divided-2.ensures in
    let fq : FitsSigned w128 c.quotient.result = search rules in
    let fr : FitsSigned w128 c.quotient-2.result = search rules in
    let three = simp to_z-of_z at c.quotient.ensures in
    let four = simp to_z-of_z at c.quotient-2.ensures in
    let fn : FitsSigned w128 c.in-Some.num = search rules in
    let fe : FitsSigned w128 c.in-Some-times.den = search rules in
    let en = simp to_z-of_z at c.in-Some.ensures in
    let em = simp to_z-of_z at c.in-Some-times.ensures in
    let is : IsProduct c.args.self.num c.args.self.den c.args.other.num c.args.other.den c.in-Some.num c.in-Some-times.den =
    product_is _ _ _ _ _ _ c.shared-across.result c.shared-back.result c.args.self.positive c.args.other.positive c.args.self.reduced c.args.other.reduced ex ey (en.1 ∙ rw (one, two) refl) (em.1 ∙ rw (three, four) refl) in
    simp to_z-of_z (record { positive = is.positive; num_fits = rw (← en.1) at en.0; reduced = is.reduced })

pub returns-clause-value : goal.returns-clause-value
returns-clause-value c =
    let fa : FitsSigned w128 c.args.self.num = search rules in
    let fb : FitsSigned w128 c.args.self.den = search rules in
    let fc : FitsSigned w128 c.args.other.num = search rules in
    let fd : FitsSigned w128 c.args.other.den = search rules in
    let fx : FitsSigned w128 c.divided.result = search rules in
    let fy : FitsSigned w128 c.divided-2.result = search rules in
    let ex = simp to_z-of_z at c.shared-across.ensures.value in
    let ey = simp to_z-of_z at c.shared-back.ensures.value in
    let one = simp to_z-of_z at c.divided.ensures in
    let two = simp to_z-of_z at c.divided-2.ensures in
    let fq : FitsSigned w128 c.quotient.result = search rules in
    let fr : FitsSigned w128 c.quotient-2.result = search rules in
    let three = simp to_z-of_z at c.quotient.ensures in
    let four = simp to_z-of_z at c.quotient-2.ensures in
    let fn : FitsSigned w128 c.in-Some.num = search rules in
    let fe : FitsSigned w128 c.in-Some-times.den = search rules in
    let en = simp to_z-of_z at c.in-Some.ensures in
    let em = simp to_z-of_z at c.in-Some-times.ensures in
    let is : IsProduct c.args.self.num c.args.self.den c.args.other.num c.args.other.den c.in-Some.num c.in-Some-times.den =
    product_is _ _ _ _ _ _ c.shared-across.result c.shared-back.result c.args.self.positive c.args.other.positive c.args.self.reduced c.args.other.reduced ex ey (en.1 ∙ rw (one, two) refl) (em.1 ∙ rw (three, four) refl) in
    simp to_z-of_z is.value

pub returns-clause-exact : goal.returns-clause-exact
returns-clause-exact c =
    let fa : FitsSigned w128 c.args.self.num = search rules in
    let fb : FitsSigned w128 c.args.self.den = search rules in
    let fc : FitsSigned w128 c.args.other.num = search rules in
    let fd : FitsSigned w128 c.args.other.den = search rules in
    let fx : FitsSigned w128 c.divided.result = search rules in
    let fy : FitsSigned w128 c.divided-2.result = search rules in
    let ex = simp to_z-of_z at c.shared-across.ensures.value in
    let ey = simp to_z-of_z at c.shared-back.ensures.value in
    let one = simp to_z-of_z at c.divided.ensures in
    let two = simp to_z-of_z at c.divided-2.ensures in
    let fq : FitsSigned w128 c.quotient.result = search rules in
    let fr : FitsSigned w128 c.quotient-2.result = search rules in
    let three = simp to_z-of_z at c.quotient.ensures in
    let four = simp to_z-of_z at c.quotient-2.ensures in
    let fn : FitsSigned w128 c.in-Some.num = search rules in
    let fe : FitsSigned w128 c.in-Some-times.den = search rules in
    let en = simp to_z-of_z at c.in-Some.ensures in
    let em = simp to_z-of_z at c.in-Some-times.ensures in
    let is : IsProduct c.args.self.num c.args.self.den c.args.other.num c.args.other.den c.in-Some.num c.in-Some-times.den =
    product_is _ _ _ _ _ _ c.shared-across.result c.shared-back.result c.args.self.positive c.args.other.positive c.args.self.reduced c.args.other.reduced ex ey (en.1 ∙ rw (one, two) refl) (em.1 ∙ rw (three, four) refl) in
    simp to_z-of_z (product_made _ _ _ _ is.lowest (rw (← en.1) at en.0) (rw (← em.1) at em.0))
