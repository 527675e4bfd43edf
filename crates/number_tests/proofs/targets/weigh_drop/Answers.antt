use Rattle.std.proofs.Common.{rules, ◌≡◌, ◌≤ℤ◌, ◌-ℤ◌, ◌∷◌, ◌++◌, [], List, ℤ, pos, neg_ℤ, get_or, slice_get, Some, sym, subst, ap, ◌∙◌, arith, FitsSigned, length}
use Rattle.std.specs.Int.{w128}
use Rattle.std.proofs.lemmas.Int.{ints, to_z-of_z}
use Rattle.number_tests.specs.Drops.{fall_number}
use Rattle.termination_model.proofs.Lists.{there}
use Rattle.number_tests.proofs.TargetLists.{negation_fits, weights_more}
use Rattle.number_tests.proofs.targets.weigh_drop.Goals as goal

pub overflow_sub-coefficient : goal.overflow_sub-coefficient
overflow_sub-coefficient c =
    let items = c.as_slice-coefficient-items.result.now in
    let n = c.loop-coefficient.coefficient-index in
    let fx : FitsSigned w128 (get_or items n (pos 0)) = search rules in
    let natural : pos 0 ≤ℤ get_or items n (pos 0) = subst (λ (xs : List ℤ). pos 0 ≤ℤ get_or xs n (pos 0)) (sym c.as_slice-coefficient-items.ensures) (c.requires.coefficients n (pos 0) (omega (arith, ap length c.as_slice-coefficient-items.ensures))) in
    simp to_z-of_z (negation_fits (get_or items n (pos 0)) natural fx)

pub loop-coefficient-preserved : goal.loop-coefficient-preserved
loop-coefficient-preserved c =
    let items = c.as_slice-coefficient-items.result.now in
    let n = c.loop-coefficient.coefficient-index in
    let x = get_or items n (pos 0) in
    let fx : FitsSigned w128 x = search rules in
    let at : slice_get c.args.call.now.coeffs n ≡ Some x = ap (λ (xs : List ℤ). slice_get xs n) (sym c.as_slice-coefficient-items.ensures) ∙ there items n (pos 0) (omega arith) in
    let natural : pos 0 ≤ℤ x = subst (λ (xs : List ℤ). pos 0 ≤ℤ get_or xs n (pos 0)) (sym c.as_slice-coefficient-items.ensures) (c.requires.coefficients n (pos 0) (omega (arith, ap length c.as_slice-coefficient-items.ensures))) in
    let fn : FitsSigned w128 (pos 0 -ℤ x) = negation_fits x natural fx in
    let pushed = simp to_z-of_z at c.in_ok-push-3.ensures.items in
    let negative : pos 0 -ℤ x ≡ neg_ℤ x = omega (arith, ints) in
    pushed ∙ (λ i. c.loop-coefficient.invariant i ++ negative i ∷ [])
    ∙ weights_more (c.args.head.now.offset ∷ c.args.head.now.coeffs) (neg_ℤ c.args.call.now.offset -ℤ pos (fall_number c.args.falls)) c.args.call.now.coeffs n x at
