use Rattle.std.proofs.Common.{rules, ◌≡◌, ℤ, Option, SomeIff, slice_get, Some, subst, FitsSigned}
use Rattle.std.specs.Int.{w128}
use Rattle.std.proofs.lemmas.Int.{to_z-of_z}
use Rattle.number_turns.specs.Recalled.{recalled_of, spelled}
use Rattle.termination_model.proofs.Lists.{at_place, by_places}
use Rattle.transition_tests.specs.Shape.{IsPlaced}
use Rattle.transition_tests.specs.StuckGroups.{ShareFits, placed_at, share_at, transition_at}
use Rattle.transition_tests.specs.Testing.{atoms}
use Rattle.transition_tests.proofs.AtomSides.{IsSideAt, share_side, side_at}
use Rattle.transition_tests.proofs.Totals.{sum_unfit, total_all, total_next, total_none, value_unfit}
use Rattle.transition_tests.proofs.sums.total.Goals.{After-atom_of-atom, After-share}
use Rattle.transition_tests.proofs.sums.total.Goals as goal

-- the atom at the point that the loop is at
module _ (c : After-atom_of-atom) where
  side : IsSideAt (recalled_of c.args.transitions.now) c.args.head c.x-item.result c.atom_of-atom.result.now
  side =
      let τs = c.args.transitions.now in
      let xs = c.args.points.now in
      let i = c.loop-x.x-index in
      let x = c.x-item.result in
      side_at τs c.args.head x c.index-transitions-x.result c.atom_of-atom.result.now c.requires.lengths
      (by_places (IsPlaced (recalled_of τs)) xs c.requires.points i x (at_place xs i x c.loop-x-test.true c.x-item.is)) c.index-transitions-x.is c.atom_of-atom.ensures

-- the point, and its share
module _ (c : After-share) where
  point_here : slice_get c.args.points.now c.loop-x.x-index ≡ Some c.x-item.result
  point_here = at_place c.args.points.now c.loop-x.x-index c.x-item.result c.loop-x-test.true c.x-item.is

  -- what is said where the share is this
  abbrev Said : Option ℤ → Type 0
  Said o =
      SomeIff o (ShareFits (atoms c.args.head (transition_at (recalled_of c.args.transitions.now) c.x-item.result.place)).0 (atoms c.args.head (transition_at (recalled_of c.args.transitions.now) c.x-item.result.place)).1 c.x-item.result.point (spelled c.args.feature))
      (share_at (atoms c.args.head) (spelled c.args.feature) (placed_at (recalled_of c.args.transitions.now) c.x-item.result))

  said : IsSideAt (recalled_of c.args.transitions.now) c.args.head c.x-item.result c.atom_of-atom.result.now → Said c.share.result
  said s = share_side (recalled_of c.args.transitions.now) c.args.head c.x-item.result c.atom_of-atom.result.now (spelled c.args.feature) c.share.result s c.share.ensures

pub loop-x-init : goal.loop-x-init
loop-x-init c = total_none (atoms c.args.head) (spelled c.args.feature) (recalled_of c.args.transitions.now) c.args.points.now

pub share-requires-clause-naturals : goal.share-requires-clause-naturals
share-requires-clause-naturals c = (side (goal.at.share-requires-clause-naturals c).After-atom_of-atom).natural_point

pub share-requires-clause-lengths : goal.share-requires-clause-lengths
share-requires-clause-lengths c = (side (goal.at.share-requires-clause-lengths c).After-atom_of-atom).long

pub returns-in_default : goal.returns-in_default
returns-in_default c =
    let at = goal.at.returns-in_default c in
    value_unfit (atoms c.args.head) (spelled c.args.feature) (recalled_of c.args.transitions.now) c.args.points.now c.loop-x.x-index c.x-item.result (point_here at.After-share)
    (subst (Said at.After-share) c.in_default.is (said at.After-share (side at.After-atom_of-atom)))

pub returns-in_default-plus : goal.returns-in_default-plus
returns-in_default-plus c =
    let at = goal.at.returns-in_default-plus c in
    let some = subst (Said at.After-share) c.in-Some.is (said at.After-share (side at.After-atom_of-atom)) in
    let fv : FitsSigned w128 c.in-Some.value = search rules in
    let out = simp to_z-of_z at c.in_default-plus.ensures in
    sum_unfit (atoms c.args.head) (spelled c.args.feature) (recalled_of c.args.transitions.now) c.args.points.now c.loop-x.x-index _ c.in-Some.value c.x-item.result c.loop-x.invariant (point_here at.After-share) some.1 out

pub loop-x-preserved : goal.loop-x-preserved
loop-x-preserved c =
    let at = goal.at.loop-x-preserved c in
    let some = subst (Said at.After-share) c.in-Some.is (said at.After-share (side at.After-atom_of-atom)) in
    let fv : FitsSigned w128 c.in-Some.value = search rules in
    let fn : FitsSigned w128 c.in-Some-plus.next = search rules in
    let next = simp to_z-of_z at c.in-Some-plus.ensures in
    simp to_z-of_z (total_next (atoms c.args.head) (spelled c.args.feature) (recalled_of c.args.transitions.now) c.args.points.now c.loop-x.x-index _ c.in-Some.value c.in-Some-plus.next c.x-item.result c.loop-x.invariant (point_here at.After-share)
    some.0 some.1 next.1 next.0)

pub returns : goal.returns
returns c = total_all (atoms c.args.head) (spelled c.args.feature) (recalled_of c.args.transitions.now) c.args.points.now c.loop-x.x-index _ c.loop-x-test.false c.loop-x.invariant
