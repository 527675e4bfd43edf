use Rattle.std.proofs.Common.{rules, ◌≡◌, ◌-ℤ◌, suc, ◌∷◌, ◌++◌, [], List, ℤ, pos, neg_ℤ, true, get_or, slice_get, Some, sym, ap, ◌∙◌, arith, FitsSigned}
use Rattle.std.specs.Int.{w128}
use Rattle.std.proofs.lemmas.Int.{ints, to_z-of_z}
use Rattle.exact128.specs.Fits.{fits}
use Rattle.number_tests.specs.Drops.{fall_number}
use Rattle.termination_model.proofs.Lists.{there}
use Rattle.number_tests.proofs.TargetLists.{weights_more}
use Rattle.transition_tests.proofs.TargetLaws.{negated_fits, number_fits}
use Rattle.transition_tests.proofs.dropping.drop_row.Goals as goal

pub overflow_sub-coefficient : goal.overflow_sub-coefficient
overflow_sub-coefficient c =
    let items = c.as_slice-coefficient-items.result.now in
    let n = c.loop-coefficient.coefficient-index in
    let x = get_or items n (pos 0) in
    let fx : FitsSigned w128 x = search rules in
    let at : slice_get c.args.call.now.coeffs n ≡ Some x = ap (λ (xs : List ℤ). slice_get xs n) (sym c.as_slice-coefficient-items.ensures) ∙ there items n (pos 0) (omega arith) in
    let fit : fits x ≡ true = number_fits (c.args.call.now.offset ∷ c.args.call.now.coeffs) (suc n) x c.requires.fit at in
    simp to_z-of_z (negated_fits x fit fx)

pub loop-coefficient-preserved : goal.loop-coefficient-preserved
loop-coefficient-preserved c =
    let items = c.as_slice-coefficient-items.result.now in
    let n = c.loop-coefficient.coefficient-index in
    let x = get_or items n (pos 0) in
    let fx : FitsSigned w128 x = search rules in
    let at : slice_get c.args.call.now.coeffs n ≡ Some x = ap (λ (xs : List ℤ). slice_get xs n) (sym c.as_slice-coefficient-items.ensures) ∙ there items n (pos 0) (omega arith) in
    let fit : fits x ≡ true = number_fits (c.args.call.now.offset ∷ c.args.call.now.coeffs) (suc n) x c.requires.fit at in
    let fn : FitsSigned w128 (pos 0 -ℤ x) = negated_fits x fit fx in
    let pushed = simp to_z-of_z at c.in_ok-push-2.ensures.items in
    let negative : pos 0 -ℤ x ≡ neg_ℤ x = omega (arith, ints) in
    pushed ∙ (λ i. c.loop-coefficient.invariant i ++ negative i ∷ [])
    ∙ weights_more c.args.head.now.coeffs (neg_ℤ c.args.call.now.offset -ℤ pos (fall_number c.args.falls)) c.args.call.now.coeffs n x at
