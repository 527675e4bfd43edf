use Rattle.std.proofs.Common.{rules, ◌≡◌, ◌∙◌, ◌≤ℤ◌, pos, slice_get, Some, refl, sym, subst, arith, FitsSigned}
use Rattle.std.specs.Int.{w128}
use Rattle.std.proofs.lemmas.Int.{ints, to_z-of_z}
use Rattle.linear_rows.specs.declared.point.Point.{Point}
use Rattle.termination_model.proofs.Lists.{at_place}
use Rattle.transition_tests.specs.StuckGroups.{own_point}
use Rattle.transition_tests.proofs.OwnPoints.{own_here, own_later, own_none}
use Rattle.transition_tests.proofs.points.has_own_point.Goals as goal

pub loop-x-init : goal.loop-x-init
loop-x-init c = refl

pub returns-then-x-place : goal.returns-then-x-place
returns-then-x-place c =
    let xs = c.args.points.now in
    let i = c.loop-x.x-index in
    let x = c.x-item.result in
    let at : slice_get xs i ≡ Some x = at_place xs i x c.loop-x-test.true c.x-item.is in
    let ft : FitsSigned w128 x.point.t = search rules in
    let own : own_point c.args.place xs ≡ x.point = c.loop-x.invariant ∙ own_here c.args.place xs i x at c.if-x-place.true in (
      λ yes.
          let here : pos 1 ≤ℤ x.point.t = grind (simp to_z-of_z at yes, arith, ints) in
          subst (λ (p : Point). pos 1 ≤ℤ p.t) (sym own) here,
      λ h. let here : pos 1 ≤ℤ x.point.t = subst (λ (p : Point). pos 1 ≤ℤ p.t) own h in simp to_z-of_z (grind (here, arith, ints)),
    )

pub loop-x-preserved : goal.loop-x-preserved
loop-x-preserved c =
    let xs = c.args.points.now in
    let i = c.loop-x.x-index in
    let x = c.x-item.result in
    c.loop-x.invariant ∙ own_later c.args.place xs i x (at_place xs i x c.loop-x-test.true c.x-item.is) c.if-x-place.false

pub returns : goal.returns
returns c = (
  λ h. cc,
  λ h. absurd (own_none c.args.place c.args.points.now c.loop-x.x-index c.loop-x-test.false (subst (λ (p : Point). pos 1 ≤ℤ p.t) c.loop-x.invariant h)),
)
