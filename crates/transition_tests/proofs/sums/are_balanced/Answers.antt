use Rattle.std.proofs.Common.{◌≡◌, ◌∙◌, inl, inr, IsTrue, false, slice_get, Some, refl, sym, arith}
use Rattle.number_turns.specs.Recalled.{recalled_of, spelled}
use Rattle.termination_model.proofs.Lists.{at_place}
use Rattle.transition_tests.specs.Testing.{AreBalanced, IsBalanced}
use Rattle.transition_tests.proofs.Places.{up_all, up_next}
use Rattle.transition_tests.proofs.Totals.{many_held}
use Rattle.transition_tests.proofs.sums.are_balanced.Goals.{After-index-groups-i}
use Rattle.transition_tests.proofs.sums.are_balanced.Goals as goal

module _ (c : After-index-groups-i) where
  group_here : slice_get c.args.groups.now c.loop-i.i ≡ Some c.index-groups-i.result
  group_here = at_place c.args.groups.now c.loop-i.i c.index-groups-i.result (omega arith) c.index-groups-i.is

pub returns-then-is_lacked : goal.returns-then-is_lacked
returns-then-is_lacked c = (λ _. inl (c.is_lacked.ensures.0 c.if-is_lacked.true), λ _. refl)

pub loop-i-init : goal.loop-i-init
loop-i-init c = λ k lt. absurd (omega (arith, lt))

pub is_balanced-requires-clause-place : goal.is_balanced-requires-clause-place
is_balanced-requires-clause-place c = omega (arith, c.requires.groups.each, many_held c.args.transitions.now)

pub is_balanced-requires-clause-group : goal.is_balanced-requires-clause-group
is_balanced-requires-clause-group c = c.requires.groups.groups c.loop-i.i c.index-groups-i.result (group_here (goal.at.is_balanced-requires-clause-group c).After-index-groups-i)

pub returns-then-not-is_balanced : goal.returns-then-not-is_balanced
returns-then-not-is_balanced c = (λ h. cc, lost)
  where
    lost : AreBalanced (recalled_of c.args.transitions.now) c.args.groups.now (spelled c.args.feature) → IsTrue false
    lost (inl lacked) = sym c.if-is_lacked.false ∙ c.is_lacked.ensures.1 lacked
    lost (inr all) = sym c.if-not-is_balanced.true ∙ c.is_balanced.ensures.1 (all c.loop-i.i c.index-groups-i.result (group_here (goal.at.returns-then-not-is_balanced c).After-index-groups-i))

pub loop-i-preserved : goal.loop-i-preserved
loop-i-preserved c =
    up_next (IsBalanced (recalled_of c.args.transitions.now) (spelled c.args.feature)) c.args.groups.now c.loop-i.i c.index-groups-i.result c.loop-i.invariant (group_here (goal.at.loop-i-preserved c).After-index-groups-i)
    (c.is_balanced.ensures.0 c.if-not-is_balanced.false)

pub returns : goal.returns
returns c = (
  λ _. inr (up_all (IsBalanced (recalled_of c.args.transitions.now) (spelled c.args.feature)) c.args.groups.now c.loop-i.i c.loop-i.invariant c.loop-i-test.false),
  λ _. refl,
)
