use Rattle.std.proofs.Common.{rules, ◌≡◌, ◌≤ℤ◌, ℕ, pos, slice_get, Some, refl, subst, arith, below_more, FitsSigned}
use Rattle.std.specs.Int.{w128}
use Rattle.std.proofs.lemmas.Int.{ints, to_z-of_z}
use Rattle.number_tests.specs.declared.pair_point.PairPoint.{PairPoint}
use Rattle.termination_model.proofs.Lists.{at_place, one_element, place_below}
use Rattle.number_tests.proofs.SumSteps.{none_of, some_at}
use Rattle.number_tests.proofs.pair_sums.has_positive.Goals as goal

pub returns-then-x-gt0 : goal.returns-then-x-gt0
returns-then-x-gt0 c =
    let points = c.args.points.now in
    let n = c.loop-x.x-index in
    let x = c.x-item.result in
    let at : slice_get points n ≡ Some x = at_place points n x c.loop-x-test.true c.x-item.is in
    let ft : FitsSigned w128 x.point.t = search rules in
    let higher = simp to_z-of_z at c.if-x-gt0.true in
    (λ h. some_at (λ (y : PairPoint). pos 1 ≤ℤ y.point.t) points n x at (omega (arith, ints, higher)), λ h. refl)

pub loop-x-preserved : goal.loop-x-preserved
loop-x-preserved c =
    let points = c.args.points.now in
    let n = c.loop-x.x-index in
    let x = c.x-item.result in
    let at : slice_get points n ≡ Some x = at_place points n x c.loop-x-test.true c.x-item.is in
    let ft : FitsSigned w128 x.point.t = search rules in
    let lower = simp to_z-of_z at c.if-x-gt0.false in
    let here : x.point.t ≤ℤ pos 0 = omega (arith, ints, lower) in
    below_more (λ (i : ℕ). (y : PairPoint) → slice_get points i ≡ Some y → y.point.t ≤ℤ pos 0) n c.loop-x.invariant
    (λ y ey. subst (λ (z : PairPoint). z.point.t ≤ℤ pos 0) (one_element points n x y at ey) here)

pub returns : goal.returns
returns c = (
  λ h. cc,
  λ some. absurd (none_of (λ (y : PairPoint). pos 1 ≤ℤ y.point.t) c.args.points.now
      (λ i x ex higher. let lower = c.loop-x.invariant i (omega (arith, place_below c.args.points.now i x ex)) x ex in omega (arith, ints, lower, higher)) some),
)
