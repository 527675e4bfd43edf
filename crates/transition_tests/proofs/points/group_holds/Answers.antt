use Rattle.std.proofs.Common.{◌≡◌, ◌∙◌, ◌↔◌, ◌≤ℤ◌, pos, IsTrue, IfSome, List, slice_get, Some, sym, subst}
use Rattle.std.specs.List.{AllByRecursion}
use Rattle.number_turns.specs.Recalled.{recalled, recalled_of}
use Rattle.termination_model.proofs.Lists.{at_place}
use Rattle.transitions.specs.Transitions.{Transition as Recalled}
use Rattle.transition_tests.specs.Shape.{HasLengths, IsPlaced, IsPointOf}
use Rattle.transition_tests.specs.StuckGroups.{own_point, transition_at}
use Rattle.transition_tests.specs.Testing.{AllHoldAt, GroupHolds, PlacedHolds}
use Rattle.transition_tests.specs.declared.group.PlacedPoint.{PlacedPoint}
use Rattle.transition_tests.proofs.Totals.{held_at, transition_is}
use Rattle.transition_tests.proofs.points.group_holds.Goals.{After-index-transitions-place}
use Rattle.transition_tests.proofs.points.group_holds.Goals as goal

-- the transition of the group
module _ (c : After-index-transitions-place) where
  here : slice_get c.args.transitions.now c.args.place ≡ Some c.index-transitions-place.result
  here = at_place c.args.transitions.now c.args.place c.index-transitions-place.result c.requires.place c.index-transitions-place.is

  is : transition_at (recalled_of c.args.transitions.now) c.args.place ≡ recalled c.index-transitions-place.result.now
  is = transition_is c.args.transitions.now c.args.place c.index-transitions-place.result here

pub points_hold-requires-clause-points : goal.points_hold-requires-clause-points
points_hold-requires-clause-points c = subst (AllByRecursion (IsPlaced (recalled_of c.args.transitions.now))) (sym c.as_slice-points.ensures) c.requires.group.points

pub floor_holds-requires-clause-lengths : goal.floor_holds-requires-clause-lengths
floor_holds-requires-clause-lengths c = held_at HasLengths c.args.transitions.now c.requires.lengths c.args.place c.index-transitions-place.result (here c)

pub floor_holds-requires-clause-floor : goal.floor_holds-requires-clause-floor
floor_holds-requires-clause-floor c = subst (λ (τ : Recalled). IfSome c.args.group.now.floor (IsPointOf τ)) (is c) c.requires.group.floor

pub returns-then-not-has_own_point : goal.returns-then-not-has_own_point
returns-then-not-has_own_point c = (
  λ no. cc,
  λ (h : GroupHolds (recalled_of c.args.transitions.now) c.args.place c.args.group.now).
      sym c.if-not-has_own_point.true ∙ c.has_own_point.ensures.1 (subst (λ (xs : List PlacedPoint). pos 1 ≤ℤ (own_point c.args.place xs).t) (sym c.as_slice-points.ensures) h.own),
)

pub returns-then-not-points_hold : goal.returns-then-not-points_hold
returns-then-not-points_hold c = (
  λ no. cc,
  λ (h : GroupHolds (recalled_of c.args.transitions.now) c.args.place c.args.group.now).
      sym c.if-not-points_hold.true ∙ c.points_hold.ensures.1 (subst (AllByRecursion (PlacedHolds (recalled_of c.args.transitions.now))) (sym c.as_slice-points.ensures) h.points),
)

pub returns : goal.returns
returns c =
    let at = (goal.at.returns c).After-index-transitions-place in
    let τs = recalled_of c.args.transitions.now in
    let own = subst (λ (xs : List PlacedPoint). pos 1 ≤ℤ (own_point c.args.place xs).t) c.as_slice-points.ensures (c.has_own_point.ensures.0 c.if-not-has_own_point.false) in
    let points = subst (AllByRecursion (PlacedHolds τs)) c.as_slice-points.ensures (c.points_hold.ensures.0 c.if-not-points_hold.false) in
    let floor : IsTrue c.floor_holds.result ↔ IfSome c.args.group.now.floor (AllHoldAt (transition_at τs c.args.place)) =
    subst (λ (τ : Recalled). IsTrue c.floor_holds.result ↔ IfSome c.args.group.now.floor (AllHoldAt τ)) (sym (is at)) c.floor_holds.ensures in (
      λ yes. record { own = own; points = points; floor = floor.0 yes },
      λ (h : GroupHolds τs c.args.place c.args.group.now). floor.1 h.floor,
    )
