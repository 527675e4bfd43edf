use Rattle.std.proofs.Common.{◌≡◌, slice_get, Some, refl, arith}
use Rattle.std.specs.Borrow.{Bor}
use Rattle.number_tests.proofs.SumSteps.{none_of, some_at}
use Rattle.number_turns.specs.Recalled.{held_of, recalled, recalled_of, spelled}
use Rattle.number_turns.specs.declared.transition.Transition.{Transition}
use Rattle.termination_model.proofs.Lists.{at_place, mapped_place}
use Rattle.transitions.specs.StuckSets.{Lacks}
use Rattle.transitions.specs.Transitions.{Transition as Recalled}
use Rattle.transition_tests.proofs.Places.{up_all, up_next}
use Rattle.transition_tests.proofs.Totals.{many_held}
use Rattle.transition_tests.proofs.sums.is_lacked.Goals.{After-lacks}
use Rattle.transition_tests.proofs.sums.is_lacked.Goals as goal

module _ (c : After-lacks) where
  here : slice_get (recalled_of c.args.transitions.now) c.loop-transition.transition-index ≡ Some (recalled c.transition-item.result.now)
  here =
      let τs = c.args.transitions.now in
      let i = c.loop-transition.transition-index in
      let τ = c.transition-item.result in
      mapped_place recalled (held_of τs) i τ.now (mapped_place (λ (b : Bor Transition). b.now) τs i τ (at_place τs i τ c.loop-transition-test.true c.transition-item.is))

pub loop-transition-init : goal.loop-transition-init
loop-transition-init c = λ k lt. absurd (omega (arith, lt))

pub returns-then-lacks : goal.returns-then-lacks
returns-then-lacks c = (
  λ _. some_at (λ (τ : Recalled). Lacks τ (spelled c.args.feature)) (recalled_of c.args.transitions.now) c.loop-transition.transition-index (recalled c.transition-item.result.now)
      (here (goal.at.returns-then-lacks c).After-lacks) (c.lacks.ensures.0 c.if-lacks.true),
  λ _. refl,
)

pub loop-transition-preserved : goal.loop-transition-preserved
loop-transition-preserved c =
    up_next (λ _ (τ : Recalled). Lacks τ (spelled c.args.feature) → ⊥) (recalled_of c.args.transitions.now) c.loop-transition.transition-index (recalled c.transition-item.result.now) c.loop-transition.invariant
    (here (goal.at.loop-transition-preserved c).After-lacks)
    (λ lacks. let one = c.lacks.ensures.1 lacks in let other = c.if-lacks.false in cc)

pub returns : goal.returns
returns c = (
  λ no. cc,
  λ some. absurd (none_of (λ (τ : Recalled). Lacks τ (spelled c.args.feature)) (recalled_of c.args.transitions.now)
      (up_all (λ _ (τ : Recalled). Lacks τ (spelled c.args.feature) → ⊥) (recalled_of c.args.transitions.now) c.loop-transition.transition-index c.loop-transition.invariant
      (omega (arith, c.loop-transition-test.false, many_held c.args.transitions.now))) some),
)
