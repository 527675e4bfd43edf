use Rattle.std.proofs.Common.{rules, ◌≡◌, pos, ◌/◌, arith, ap, ◌∙◌, inl, inr}
use Rattle.std.specs.Int.{w128}
use Rattle.std.specs.Prelude.{FitsSigned}
use Rattle.std.proofs.lemmas.Int.{to_z-of_z, to_z_pos}
use Rattle.exact128.specs.Fractions.{lowest, signed_of}
use Rattle.exact128.proofs.FractionQuotients.{IsLowest, lowest_made, lowest_made_is, lowest_wide, abs_made}
use Rattle.exact128.proofs.FractionProducts.{product_made}
use Rattle.rational128.proofs.ratio.Ratio.new.Goals as goal
use Rattle.rational128.proofs.ratio.Ratio.new.Goals.{then-top-gt-MOST-via-then-top-gt-MOST, then-top-gt-MOST-via-else-top-gt-MOST+then-bottom-gt-MOST}

pub returns-then-top-gt-MOST-clause-exact : goal.returns-then-top-gt-MOST-clause-exact
returns-then-top-gt-MOST-clause-exact c =
    let fn : FitsSigned w128 c.args.num = search rules in
    let fd : FitsSigned w128 c.args.den = search rules in
    lowest_wide _ _ _ _ c.gcd-shared.result (simp to_z-of_z at c.unsigned_abs-above.ensures.value) (simp to_z-of_z at c.unsigned_abs-below.ensures.value) c.gcd-shared.ensures.value (elim c.then-top-gt-MOST.branch [ then-top-gt-MOST-via-then-top-gt-MOST w ↦ inl w.if-top-gt-MOST.true | then-top-gt-MOST-via-else-top-gt-MOST+then-bottom-gt-MOST w ↦ inr w.if-bottom-gt-MOST.true ])

pub invariant_of-result : goal.invariant_of-result
invariant_of-result c =
    let fn : FitsSigned w128 c.args.num = search rules in
    let fd : FitsSigned w128 c.args.den = search rules in
    let fr : FitsSigned w128 c.signed.result = search rules in
    let ea = simp to_z-of_z at c.unsigned_abs-above.ensures.value in
    let eb = simp to_z-of_z at c.unsigned_abs-below.ensures.value in
    let eg = rw (ea, eb) at c.gcd-shared.ensures.value in
    let en = (simp to_z-of_z at c.signed.ensures) ∙ ap (λ k. signed_of (k / c.gcd-shared.result) c.args.num c.args.den) ea in
    let made : lowest c.args.num c.args.den ≡ record { num = c.signed.result; den = pos (c.unsigned_abs-below.result / c.gcd-shared.result) } = lowest_made _ _ _ _ c.gcd-shared.result eg en (ap (λ n. pos (n / c.gcd-shared.result)) eb) in
    let is : IsLowest c.args.num c.args.den c.signed.result (pos (c.unsigned_abs-below.result / c.gcd-shared.result)) = lowest_made_is _ _ _ _ c.requires made in
    let low = to_z_pos w128 (c.unsigned_abs-below.result / c.gcd-shared.result) (omega arith) in
    let fits = abs_made c.args.num c.args.den c.signed.result (c.unsigned_abs-above.result / c.gcd-shared.result) (simp to_z-of_z at c.signed.ensures) in
    simp (to_z-of_z, low) (record { positive = is.positive; num_fits = omega (arith, fits); reduced = is.reduced })

pub returns-clause-value : goal.returns-clause-value
returns-clause-value c =
    let fn : FitsSigned w128 c.args.num = search rules in
    let fd : FitsSigned w128 c.args.den = search rules in
    let fr : FitsSigned w128 c.signed.result = search rules in
    let ea = simp to_z-of_z at c.unsigned_abs-above.ensures.value in
    let eb = simp to_z-of_z at c.unsigned_abs-below.ensures.value in
    let eg = rw (ea, eb) at c.gcd-shared.ensures.value in
    let en = (simp to_z-of_z at c.signed.ensures) ∙ ap (λ k. signed_of (k / c.gcd-shared.result) c.args.num c.args.den) ea in
    let made : lowest c.args.num c.args.den ≡ record { num = c.signed.result; den = pos (c.unsigned_abs-below.result / c.gcd-shared.result) } = lowest_made _ _ _ _ c.gcd-shared.result eg en (ap (λ n. pos (n / c.gcd-shared.result)) eb) in
    let is : IsLowest c.args.num c.args.den c.signed.result (pos (c.unsigned_abs-below.result / c.gcd-shared.result)) = lowest_made_is _ _ _ _ c.requires made in
    let low = to_z_pos w128 (c.unsigned_abs-below.result / c.gcd-shared.result) (omega arith) in
    let fits = abs_made c.args.num c.args.den c.signed.result (c.unsigned_abs-above.result / c.gcd-shared.result) (simp to_z-of_z at c.signed.ensures) in
    simp (to_z-of_z, low) is.value

pub returns-clause-exact : goal.returns-clause-exact
returns-clause-exact c =
    let fn : FitsSigned w128 c.args.num = search rules in
    let fd : FitsSigned w128 c.args.den = search rules in
    let fr : FitsSigned w128 c.signed.result = search rules in
    let ea = simp to_z-of_z at c.unsigned_abs-above.ensures.value in
    let eb = simp to_z-of_z at c.unsigned_abs-below.ensures.value in
    let eg = rw (ea, eb) at c.gcd-shared.ensures.value in
    let en = (simp to_z-of_z at c.signed.ensures) ∙ ap (λ k. signed_of (k / c.gcd-shared.result) c.args.num c.args.den) ea in
    let made : lowest c.args.num c.args.den ≡ record { num = c.signed.result; den = pos (c.unsigned_abs-below.result / c.gcd-shared.result) } = lowest_made _ _ _ _ c.gcd-shared.result eg en (ap (λ n. pos (n / c.gcd-shared.result)) eb) in
    let is : IsLowest c.args.num c.args.den c.signed.result (pos (c.unsigned_abs-below.result / c.gcd-shared.result)) = lowest_made_is _ _ _ _ c.requires made in
    let low = to_z_pos w128 (c.unsigned_abs-below.result / c.gcd-shared.result) (omega arith) in
    let fits = abs_made c.args.num c.args.den c.signed.result (c.unsigned_abs-above.result / c.gcd-shared.result) (simp to_z-of_z at c.signed.ensures) in
    simp (to_z-of_z, low) (product_made _ _ _ _ made (omega (arith, fits)) (omega arith))
