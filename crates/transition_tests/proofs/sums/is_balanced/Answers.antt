use Rattle.std.proofs.Common.{rules, ◌≡◌, ◌∙◌, ◌+ℤ◌, ℤ, IfSome, List, map, slice_get, Some, refl, ap, sym, subst, FitsSigned, to_z, of_z}
use Rattle.std.specs.Int.{w128}
use Rattle.std.specs.List.{AllByRecursion}
use Rattle.std.proofs.lemmas.Int.{to_z-of_z}
use Rattle.exact128.specs.Fits.{Fits}
use Rattle.number_turns.specs.Recalled.{recalled, recalled_of, spelled}
use Rattle.termination_model.proofs.Lists.{at_place}
use Rattle.transitions.specs.StuckSets.{floor_share}
use Rattle.transitions.specs.Transitions.{Transition as Recalled}
use Rattle.transition_tests.specs.Shape.{HasLengths, IsPlaced, IsPointOf}
use Rattle.transition_tests.specs.StuckGroups.{ShareFits, SumsFit, TotalFits, call_of, floor_at, head_of, placed_at, total, transition_at}
use Rattle.transition_tests.specs.Testing.{IsBalanced, heads_total}
use Rattle.transition_tests.specs.declared.group.PlacedPoint.{PlacedPoint}
use Rattle.transition_tests.proofs.Totals.{held_at, total_fits, transition_is}
use Rattle.transition_tests.proofs.sums.is_balanced.Goals.{After-index-transitions-place, After-total, After-with_floor}
use Rattle.transition_tests.proofs.sums.is_balanced.Goals as goal

-- the transition of the group
module _ (c : After-index-transitions-place) where
  here : slice_get c.args.transitions.now c.args.place ≡ Some c.index-transitions-place.result
  here = at_place c.args.transitions.now c.args.place c.index-transitions-place.result c.requires.place c.index-transitions-place.is

  is : transition_at (recalled_of c.args.transitions.now) c.args.place ≡ recalled c.index-transitions-place.result.now
  is = transition_is c.args.transitions.now c.args.place c.index-transitions-place.result here

  -- the sum of the heads
  heads : TotalFits (recalled_of c.args.transitions.now) head_of (spelled c.args.feature) c.args.group.now.points
      × (c.in-Some.sum ≡ total head_of (spelled c.args.feature) (map (placed_at (recalled_of c.args.transitions.now)) c.args.group.now.points))
  heads =
      subst (λ (xs : List PlacedPoint). TotalFits (recalled_of c.args.transitions.now) head_of (spelled c.args.feature) xs
      × (c.in-Some.sum ≡ total head_of (spelled c.args.feature) (map (placed_at (recalled_of c.args.transitions.now)) xs))) c.as_slice-points.ensures c.in-Some.ensures

  sum_fits : Fits c.in-Some.sum
  sum_fits = subst Fits (sym heads.1) (total_fits head_of (spelled c.args.feature) (recalled_of c.args.transitions.now) c.args.group.now.points heads.0)

pub total-requires-clause-points : goal.total-requires-clause-points
total-requires-clause-points c = subst (AllByRecursion (IsPlaced (recalled_of c.args.transitions.now))) (sym c.as_slice-points.ensures) c.requires.group.points

pub returns-in_default : goal.returns-in_default
returns-in_default c = (
  λ h. cc,
  λ (h : IsBalanced (recalled_of c.args.transitions.now) (spelled c.args.feature) c.args.place c.args.group.now).
      absurd (c.in_default.ensures (subst (TotalFits (recalled_of c.args.transitions.now) head_of (spelled c.args.feature)) (sym c.as_slice-points.ensures) h.fit.heads)),
)

pub with_floor-requires-clause-sum : goal.with_floor-requires-clause-sum
with_floor-requires-clause-sum c =
    let fs : FitsSigned w128 c.in-Some.sum = search rules in
    simp to_z-of_z (sum_fits (goal.at.with_floor-requires-clause-sum c).After-index-transitions-place)

pub with_floor-requires-clause-lengths : goal.with_floor-requires-clause-lengths
with_floor-requires-clause-lengths c = held_at HasLengths c.args.transitions.now c.requires.lengths c.args.place c.index-transitions-place.result (here (goal.at.with_floor-requires-clause-lengths c).After-index-transitions-place)

pub with_floor-requires-clause-floor : goal.with_floor-requires-clause-floor
with_floor-requires-clause-floor c = subst (λ (τ : Recalled). IfSome c.args.group.now.floor (IsPointOf τ)) (is (goal.at.with_floor-requires-clause-floor c).After-index-transitions-place) c.requires.group.floor

-- what the floor adds
module _ (c : After-index-transitions-place) where
  abbrev FloorFits : Recalled → Type 0
  FloorFits τ =
      IfSome c.args.group.now.floor (λ x. ShareFits τ.head τ.head_columns x (spelled c.args.feature))
      × Fits (c.in-Some.sum +ℤ floor_share τ (floor_at c.args.group.now.floor) (spelled c.args.feature))

  floor_fits : SumsFit (recalled_of c.args.transitions.now) c.args.place c.args.group.now (spelled c.args.feature) → FloorFits (recalled c.index-transitions-place.result.now)
  floor_fits fit =
      subst FloorFits (is c)
      (fit.floor_fits, subst (λ (z : ℤ). Fits (z +ℤ floor_share (transition_at (recalled_of c.args.transitions.now) c.args.place) (floor_at c.args.group.now.floor) (spelled c.args.feature))) (sym (heads c).1) fit.sum_fits)

pub returns-in_default-with_floor : goal.returns-in_default-with_floor
returns-in_default-with_floor c =
    let at = (goal.at.returns-in_default-with_floor c).After-index-transitions-place in
    let fs : FitsSigned w128 c.in-Some.sum = search rules in
    let out = simp to_z-of_z at c.in_default-with_floor.ensures in (
      λ h. cc,
      λ (h : IsBalanced (recalled_of c.args.transitions.now) (spelled c.args.feature) c.args.place c.args.group.now). absurd (out (floor_fits at h.fit)),
    )

pub total-requires-2-clause-points : goal.total-requires-2-clause-points
total-requires-2-clause-points c = subst (AllByRecursion (IsPlaced (recalled_of c.args.transitions.now))) (sym c.as_slice-points.ensures) c.requires.group.points

pub returns-in_default-total : goal.returns-in_default-total
returns-in_default-total c = (
  λ h. cc,
  λ (h : IsBalanced (recalled_of c.args.transitions.now) (spelled c.args.feature) c.args.place c.args.group.now).
      absurd (c.in_default-total.ensures (subst (TotalFits (recalled_of c.args.transitions.now) call_of (spelled c.args.feature)) (sym c.as_slice-points.ensures) h.fit.calls)),
)

pub returns-then-heads-calls : goal.returns-then-heads-calls
returns-then-heads-calls c =
    let at = (goal.at.returns-then-heads-calls c).After-index-transitions-place in
    let τs = recalled_of c.args.transitions.now in
    let g = c.args.group.now in
    let f = spelled c.args.feature in
    let fs : FitsSigned w128 c.in-Some.sum = search rules in
    let floor = simp to_z-of_z at c.in-Some-with_floor.ensures in
    let heads_is : c.in-Some-with_floor.heads ≡ heads_total τs c.args.place g f = floor.1 ∙ (λ i. (heads at).1 i +ℤ floor_share (sym (is at) i) (floor_at g.floor) f) in
    let calls_is : c.in-Some-total.calls ≡ total call_of f (map (placed_at τs) g.points) = c.in-Some-total.ensures.1 ∙ ap (λ (xs : List PlacedPoint). total call_of f (map (placed_at τs) xs)) c.as_slice-points.ensures in (
      λ h. cc,
      λ (h : IsBalanced τs f c.args.place g). absurd (c.if-heads-calls.true (ap (of_z w128) (heads_is ∙ h.same ∙ sym calls_is))),
    )

pub returns : goal.returns
returns c =
    let at = (goal.at.returns c).After-index-transitions-place in
    let τs = recalled_of c.args.transitions.now in
    let g = c.args.group.now in
    let f = spelled c.args.feature in
    let fs : FitsSigned w128 c.in-Some.sum = search rules in
    let fh : FitsSigned w128 c.in-Some-with_floor.heads = search rules in
    let fc : FitsSigned w128 c.in-Some-total.calls = search rules in
    let floor = simp to_z-of_z at c.in-Some-with_floor.ensures in
    let back : FloorFits at (transition_at τs c.args.place) = subst (FloorFits at) (sym (is at)) floor.0 in
    let heads_is : c.in-Some-with_floor.heads ≡ heads_total τs c.args.place g f = floor.1 ∙ (λ i. (heads at).1 i +ℤ floor_share (sym (is at) i) (floor_at g.floor) f) in
    let calls_is : c.in-Some-total.calls ≡ total call_of f (map (placed_at τs) g.points) = c.in-Some-total.ensures.1 ∙ ap (λ (xs : List PlacedPoint). total call_of f (map (placed_at τs) xs)) c.as_slice-points.ensures in
    let same : c.in-Some-with_floor.heads ≡ c.in-Some-total.calls =
    sym (to_z-of_z w128 c.in-Some-with_floor.heads fh) ∙ ap (to_z w128) c.if-heads-calls.false ∙ to_z-of_z w128 c.in-Some-total.calls fc in (
      λ _. record {
        fit = record {
          heads = (heads at).0;
          calls = subst (TotalFits τs call_of f) c.as_slice-points.ensures c.in-Some-total.ensures.0;
          floor_fits = back.0;
          sum_fits = subst (λ (z : ℤ). Fits (z +ℤ floor_share (transition_at τs c.args.place) (floor_at g.floor) f)) (heads at).1 back.1;
        };
        same = sym heads_is ∙ same ∙ calls_is;
      },
      λ _. refl,
    )
