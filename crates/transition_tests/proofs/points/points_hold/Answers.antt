use Rattle.std.proofs.Common.{◌≡◌, ◌∙◌, ◌↔◌, ℕ, IsTrue, length, slice_get, Some, refl, ap, sym, subst, arith}
use Rattle.std.specs.Borrow.{Bor}
use Rattle.linear_rows.specs.Plain.{HaveWidth}
use Rattle.number_turns.specs.Recalled.{recalled, recalled_of}
use Rattle.number_turns.specs.declared.transition.Transition.{Transition}
use Rattle.termination_model.proofs.Lists.{at_place, by_places, from_places}
use Rattle.transition_tests.specs.Shape.{HasLengths, IsPlaced}
use Rattle.transition_tests.specs.StuckGroups.{transition_at}
use Rattle.transition_tests.specs.Testing.{AllHoldAt, PlacedHolds}
use Rattle.transition_tests.specs.declared.group.PlacedPoint.{PlacedPoint}
use Rattle.transitions.specs.Transitions.{Transition as Recalled}
use Rattle.transition_tests.proofs.Places.{up_all, up_next}
use Rattle.transition_tests.proofs.Totals.{held_at, many_held, transition_is}
use Rattle.transition_tests.proofs.points.points_hold.Goals.{After-index-transitions-x}
use Rattle.transition_tests.proofs.points.points_hold.Goals as goal

-- the point that the loop is at, and its transition
module _ (c : After-index-transitions-x) where
  point_here : slice_get c.args.points.now c.loop-x.x-index ≡ Some c.x-item.result
  point_here = at_place c.args.points.now c.loop-x.x-index c.x-item.result c.loop-x-test.true c.x-item.is

  is_placed : IsPlaced (recalled_of c.args.transitions.now) c.x-item.result
  is_placed = by_places (IsPlaced (recalled_of c.args.transitions.now)) c.args.points.now c.requires.points c.loop-x.x-index c.x-item.result point_here

  here : slice_get c.args.transitions.now c.x-item.result.place ≡ Some c.index-transitions-x.result
  here = at_place c.args.transitions.now c.x-item.result.place c.index-transitions-x.result (let lt = is_placed.there in omega (arith, lt, many_held c.args.transitions.now)) c.index-transitions-x.is

  is : transition_at (recalled_of c.args.transitions.now) c.x-item.result.place ≡ recalled c.index-transitions-x.result.now
  is = transition_is c.args.transitions.now c.x-item.result.place c.index-transitions-x.result here

  lengths : HasLengths c.index-transitions-x.result.now
  lengths = held_at HasLengths c.args.transitions.now c.requires.lengths c.x-item.result.place c.index-transitions-x.result here

  long : length c.x-item.result.point.w ≡ c.index-transitions-x.result.now.rows.width
  long = is_placed.point.long ∙ ap (λ (τ : Recalled). τ.vars) is

  wide : HaveWidth (length c.x-item.result.point.w) c.index-transitions-x.result.now.rows.list
  wide = subst (λ (n : ℕ). HaveWidth n c.index-transitions-x.result.now.rows.list) (sym long) lengths.rows

pub loop-x-init : goal.loop-x-init
loop-x-init c = λ k lt. absurd (omega (arith, lt))

pub rows_hold-requires : goal.rows_hold-requires
rows_hold-requires c = subst (λ (τ : Bor Transition). HaveWidth (length c.x-item.result.point.w) τ.now.rows.list) c.index-transitions-x.is (wide c)

pub returns-then-not-rows_hold : goal.returns-then-not-rows_hold
returns-then-not-rows_hold c =
    let at = (goal.at.returns-then-not-rows_hold c).After-index-transitions-x in
    let τs = recalled_of c.args.transitions.now in
    let x = c.x-item.result in (
      λ no. cc,
      λ all.
          let all_here : AllHoldAt (recalled c.index-transitions-x.result.now) x.point =
          subst (λ (τ : Recalled). AllHoldAt τ x.point) (is at) (by_places (PlacedHolds τs) c.args.points.now all c.loop-x.x-index x (point_here at)) in
          let iff = subst (λ (τ : Bor Transition). IsTrue c.rows_hold.result ↔ AllHoldAt (recalled τ.now) x.point) (sym c.index-transitions-x.is) c.rows_hold.ensures in
          sym c.if-not-rows_hold.true ∙ iff.1 all_here,
    )

pub loop-x-preserved : goal.loop-x-preserved
loop-x-preserved c =
    let at = (goal.at.loop-x-preserved c).After-index-transitions-x in
    let τs = recalled_of c.args.transitions.now in
    let x = c.x-item.result in
    let iff = subst (λ (τ : Bor Transition). IsTrue c.rows_hold.result ↔ AllHoldAt (recalled τ.now) x.point) (sym c.index-transitions-x.is) c.rows_hold.ensures in
    up_next (λ _ (y : PlacedPoint). PlacedHolds τs y) c.args.points.now c.loop-x.x-index x c.loop-x.invariant (point_here at)
    (subst (λ (τ : Recalled). AllHoldAt τ x.point) (sym (is at)) (iff.0 c.if-not-rows_hold.false))

pub returns : goal.returns
returns c = (
  λ _. from_places (PlacedHolds (recalled_of c.args.transitions.now)) c.args.points.now
      (up_all (λ _ (y : PlacedPoint). PlacedHolds (recalled_of c.args.transitions.now) y) c.args.points.now c.loop-x.x-index c.loop-x.invariant c.loop-x-test.false),
  λ _. refl,
)
