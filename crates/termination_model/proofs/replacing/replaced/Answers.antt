use Rattle.std.proofs.Common.{rules, ◌≡◌, ◌∷◌, ◌++◌, ◌+◌, ◌<◌, ℕ, [], List, ℤ, sym, ap, ◌∙◌, arith, length, slice_index_or, below_more, length-append, subst}
use Rattle.std.specs.Int.{w128}
use Rattle.std.specs.Prelude.{FitsSigned}
use Rattle.std.proofs.lemmas.Int.{to_z-of_z}
use Rattle.exact128.specs.Fits.{Fits}
use Rattle.exact128.specs.Sums.{entry, dot}
use Rattle.termination_model.proofs.Lists.{any_default}
use Rattle.termination_model.proofs.RowColumns.{kept, pushed_last, over_list, over_fit, over_unfit}
use Rattle.termination_model.proofs.replacing.replaced.Goals as goal

pub loop-x-init : goal.loop-x-init
loop-x-init c =
    let fs : FitsSigned w128 c.in-Some.constant = search rules in
    let own : c.as_slice.result.now ≡ slice_index_or c.args.columns.now 0 [] = c.as_slice.ensures ∙ c.index-columns-0.is ∙ any_default c.args.columns.now 0 _ _ (omega (arith, c.requires.some)) in
    let some = c.in-Some.ensures in
    record {
      count = ap (λ (s : List ℤ). length s + 1) c.new-coeffs.ensures;
      each = λ i lt. let zero : i ≡ 0 = omega arith in rw zero (simp to_z-of_z (let e = some.1 in e ∙ ap (dot c.args.row.now) own));
      fits = λ i lt. let zero : i ≡ 0 = omega arith in rw zero (subst (λ (x : List ℤ). Fits (dot c.args.row.now x)) own some.0);
    }

pub loop-x-preserved : goal.loop-x-preserved
loop-x-preserved c =
    let fs : FitsSigned w128 c.in-Some.constant = search rules in
    let fn : FitsSigned w128 c.in-Some-sum_of_products.number = search rules in
    let x = c.loop-x.x in
    let i = c.loop-x.invariant in
    let row = c.args.row.now in
    let columns = c.args.columns.now in
    let own : c.as_slice-in-loop-x.result.now ≡ slice_index_or columns x [] = c.as_slice-in-loop-x.ensures ∙ c.index-columns-x.is ∙ any_default columns x _ _ (omega arith) in
    let some = c.in-Some-sum_of_products.ensures in
    let pushed = simp to_z-of_z at c.in_ok-push.ensures.ok in
    let each = simp to_z-of_z at i.each in
    let before : List ℤ = c.in-Some.constant ∷ c.loop-x.coeffs in
    let long : length before ≡ x = omega (arith, i.count) in
    record {
      count = omega (arith, i.count, ap length pushed, length-append c.loop-x.coeffs (c.in-Some-sum_of_products.number ∷ []));
      each =
          simp to_z-of_z
          (subst (λ (cs : List ℤ). (k : ℕ) → k < x + 1 → entry (c.in-Some.constant ∷ cs) k ≡ dot row (slice_index_or columns k [])) (sym pushed)
          (below_more (λ (k : ℕ). entry (before ++ c.in-Some-sum_of_products.number ∷ []) k ≡ dot row (slice_index_or columns k [])) x
          (λ k lt. kept before c.in-Some-sum_of_products.number k (omega (arith, long)) ∙ each k lt)
          (pushed_last before c.in-Some-sum_of_products.number x (sym long) ∙ some.1 ∙ ap (dot row) own)));
      fits = below_more (λ (k : ℕ). Fits (dot row (slice_index_or columns k []))) x i.fits (subst (λ (s : List ℤ). Fits (dot row s)) own some.0);
    }

pub returns-in_default : goal.returns-in_default
returns-in_default c =
    let own : c.as_slice.result.now ≡ slice_index_or c.args.columns.now 0 [] = c.as_slice.ensures ∙ c.index-columns-0.is ∙ any_default c.args.columns.now 0 _ _ (omega (arith, c.requires.some)) in
    over_unfit c.args.columns.now c.args.row.now 0 (omega (arith, c.requires.some)) (λ f. c.in_default.ensures (subst (λ (s : List ℤ). Fits (dot c.args.row.now s)) (sym own) f))

pub returns-in_default-sum_of_products : goal.returns-in_default-sum_of_products
returns-in_default-sum_of_products c =
    let x = c.loop-x.x in
    let own : c.as_slice-in-loop-x.result.now ≡ slice_index_or c.args.columns.now x [] = c.as_slice-in-loop-x.ensures ∙ c.index-columns-x.is ∙ any_default c.args.columns.now x _ _ (omega arith) in
    over_unfit c.args.columns.now c.args.row.now x (omega arith) (λ f. c.in_default-sum_of_products.ensures (subst (λ (s : List ℤ). Fits (dot c.args.row.now s)) (sym own) f))

pub returns : goal.returns
returns c =
    let fs : FitsSigned w128 c.in-Some.constant = search rules in
    let i = c.loop-x.invariant in
    let each = simp to_z-of_z at i.each in
    let numbers : List ℤ = c.in-Some.constant ∷ c.loop-x.coeffs in
    let some = c.requires.some in
    let all : c.loop-x.x ≡ length c.args.columns.now = omega arith in
    simp to_z-of_z (
      over_list c.args.columns.now c.args.row.now numbers (omega (arith, i.count)) (λ k lt. each k (omega arith)),
      over_fit c.args.columns.now c.args.row.now (λ k lt. i.fits k (omega arith)),
    )
