use Rattle.std.proofs.Common.{◌≡◌, ◌∙◌, slice_get, Some, refl, sym, arith}
use Rattle.number_turns.specs.Recalled.{recalled_of}
use Rattle.termination_model.proofs.Lists.{at_place}
use Rattle.transition_tests.specs.Testing.{GroupHolds}
use Rattle.transition_tests.proofs.Places.{up_all, up_next}
use Rattle.transition_tests.proofs.Totals.{many_held}
use Rattle.transition_tests.proofs.points.groups_hold.Goals.{After-index-groups-i}
use Rattle.transition_tests.proofs.points.groups_hold.Goals as goal

module _ (c : After-index-groups-i) where
  group_here : slice_get c.args.groups.now c.loop-i.i ≡ Some c.index-groups-i.result
  group_here = at_place c.args.groups.now c.loop-i.i c.index-groups-i.result (omega arith) c.index-groups-i.is

pub loop-i-init : goal.loop-i-init
loop-i-init c = λ k lt. absurd (omega (arith, lt))

pub group_holds-requires-clause-place : goal.group_holds-requires-clause-place
group_holds-requires-clause-place c = omega (arith, c.requires.groups.each, many_held c.args.transitions.now)

pub group_holds-requires-clause-group : goal.group_holds-requires-clause-group
group_holds-requires-clause-group c = c.requires.groups.groups c.loop-i.i c.index-groups-i.result (group_here ((goal.at.group_holds-requires-clause-group c).After-index-groups-i))

pub returns-then-not-group_holds : goal.returns-then-not-group_holds
returns-then-not-group_holds c = (
  λ no. cc,
  λ all. sym c.if-not-group_holds.true ∙ c.group_holds.ensures.1 (all c.loop-i.i c.index-groups-i.result (group_here ((goal.at.returns-then-not-group_holds c).After-index-groups-i))),
)

pub loop-i-preserved : goal.loop-i-preserved
loop-i-preserved c =
    up_next (GroupHolds (recalled_of c.args.transitions.now)) c.args.groups.now c.loop-i.i c.index-groups-i.result c.loop-i.invariant (group_here ((goal.at.loop-i-preserved c).After-index-groups-i))
    (c.group_holds.ensures.0 c.if-not-group_holds.false)

pub returns : goal.returns
returns c = (
  λ _. up_all (GroupHolds (recalled_of c.args.transitions.now)) c.args.groups.now c.loop-i.i c.loop-i.invariant c.loop-i-test.false,
  λ _. refl,
)
