use Rattle.std.proofs.Common.{◌≡◌, ◌↔◌, ◌-◌, ℕ, None, length, slice_get, Option, Some, IfSome, refl, sym, subst, ap, arith, below_more}
use Rattle.number_tests.specs.declared.pair_point.PairPoint.{PairPoint}
use Rattle.linear_rows.specs.declared.point.Point.{Point}
use Rattle.linear_rows.specs.Plain.{HaveWidth}
use Rattle.termination_model.specs.sizes.Sizes.{rows_of}
use Rattle.termination_model.proofs.Lists.{at_place, by_places, from_places, one_element, place_below}
use Rattle.cti_terms.specs.declared.clauses.Clause.{Clause}
use Rattle.number_tests.specs.Failing.{IsFirstOfPair, PointFails, points_of}
use Rattle.number_tests.specs.Refuting.{PointHolds, RowsHold, clause_of, clause_or_none}
use Rattle.number_tests.specs.SystemPoints.{SystemFails, SystemHolds}
use Rattle.number_tests.specs.declared.point_flaw.PointFlaw.{PointFlaw}
use Rattle.number_tests.specs.Shape.{IsPairOf}
use Rattle.number_tests.specs.Systems.{IsSystemUpTo}
use Rattle.number_tests.proofs.BeforeLaws.{before_first, before_more}
use Rattle.number_tests.proofs.PointSteps.{first_fails, if_some_more, point_decided}
use Rattle.number_tests.proofs.point_flaws.points_flaw.Goals as goal

pub loop-x-init : goal.loop-x-init
loop-x-init g c = record {
  place = omega (arith, before_first points_of c.args.points.now);
  reached = λ k first at. absurd (let none = c.nothing_reached-reached.ensures in omega (arith, first, none));
  points = λ i lt x at. absurd (omega (arith, lt));
}

pub reach-requires-clause-last : goal.reach-requires-clause-last
reach-requires-clause-last g c =
    let p = c.args.p.now in
    let points = c.args.points.now in
    let n = c.loop-x.x-index in
    let x = c.x-item.result in
    let at : slice_get points n ≡ Some x = at_place points n x c.loop-x-test.true c.x-item.is in
    let pair : IsPairOf p x = by_places (IsPairOf p) points c.requires.pairs n x at in
    omega (arith, place_below p.clauses (x.clause - 1) pair.clause pair.there)

pub pair_flaw-requires-clause-point : goal.pair_flaw-requires-clause-point
pair_flaw-requires-clause-point g c =
    let e = g.N.Norm.expression c.args.norm.now in
    let p = c.args.p.now in
    let rs = rows_of c.args.sizes.now in
    let points = c.args.points.now in
    let n = c.loop-x.x-index in
    let x = c.x-item.result in
    let at : slice_get points n ≡ Some x = at_place points n x c.loop-x-test.true c.x-item.is in
    let pair : IsPairOf p x = by_places (IsPairOf p) points c.requires.pairs n x at in
    let number : c.in_ok-reached.reached.clause ≡ x.clause = c.in_ok-reached.ensures.clause in
    let is : IsSystemUpTo e rs pair.clause c.in_ok-reached.reached.atoms c.in_ok-reached.reached.system =
    c.in_ok-reached.ensures.reached pair.clause (let first = pair.first in omega (arith, number, first)) (subst (λ (k : ℕ). slice_get p.clauses (k - 1) ≡ Some pair.clause) (sym number) pair.there) in
    subst (λ (k : ℕ). HaveWidth k c.in_ok-reached.reached.system.rows.list) (sym pair.point) is.widths

pub pair_flaw-requires-clause-at : goal.pair_flaw-requires-clause-at
pair_flaw-requires-clause-at g c =
    let e = g.N.Norm.expression c.args.norm.now in
    let p = c.args.p.now in
    let rs = rows_of c.args.sizes.now in
    let points = c.args.points.now in
    let n = c.loop-x.x-index in
    let x = c.x-item.result in
    let at : slice_get points n ≡ Some x = at_place points n x c.loop-x-test.true c.x-item.is in
    let pair : IsPairOf p x = by_places (IsPairOf p) points c.requires.pairs n x at in
    let number : c.in_ok-reached.reached.clause ≡ x.clause = c.in_ok-reached.ensures.clause in
    let is : IsSystemUpTo e rs pair.clause c.in_ok-reached.reached.atoms c.in_ok-reached.reached.system =
    c.in_ok-reached.ensures.reached pair.clause (let first = pair.first in omega (arith, number, first)) (subst (λ (k : ℕ). slice_get p.clauses (k - 1) ≡ Some pair.clause) (sym number) pair.there) in
    if_some_more (λ (y : Point). length y.w ≡ pair.clause.vars) (λ (y : Point). HaveWidth (length y.w) c.in_ok-reached.reached.system.rows.list)
    (λ y same. subst (λ (k : ℕ). HaveWidth k c.in_ok-reached.reached.system.rows.list) (sym same) is.widths) x.at pair.at

pub returns-in-Some-clause-hold : goal.returns-in-Some-clause-hold
returns-in-Some-clause-hold g c =
    let e = g.N.Norm.expression c.args.norm.now in
    let p = c.args.p.now in
    let rs = rows_of c.args.sizes.now in
    let points = c.args.points.now in
    let n = c.loop-x.x-index in
    let x = c.x-item.result in
    let at : slice_get points n ≡ Some x = at_place points n x c.loop-x-test.true c.x-item.is in
    let pair : IsPairOf p x = by_places (IsPairOf p) points c.requires.pairs n x at in
    let number : c.in_ok-reached.reached.clause ≡ x.clause = c.in_ok-reached.ensures.clause in
    let is : IsSystemUpTo e rs pair.clause c.in_ok-reached.reached.atoms c.in_ok-reached.reached.system =
    c.in_ok-reached.ensures.reached pair.clause (let first = pair.first in omega (arith, number, first)) (subst (λ (k : ℕ). slice_get p.clauses (k - 1) ≡ Some pair.clause) (sym number) pair.there) in
    let decided : (c.pair_flaw.result ≡ None) ↔ PointHolds e p rs x =
    point_decided e rs pair.clause c.in_ok-reached.reached.atoms c.in_ok-reached.reached.system is p x (c.pair_flaw.result ≡ None) pair.there c.in_ok-reached.ensures.atoms c.pair_flaw.ensures.holds in
    (λ h. cc, λ all. let none = decided.1 (by_places (PointHolds e p rs) points all n x at) in let some = c.in-Some.is in cc)

pub returns-in-Some-clause-first : goal.returns-in-Some-clause-first
returns-in-Some-clause-first g c =
    let e = g.N.Norm.expression c.args.norm.now in
    let p = c.args.p.now in
    let rs = rows_of c.args.sizes.now in
    let points = c.args.points.now in
    let n = c.loop-x.x-index in
    let x = c.x-item.result in
    let at : slice_get points n ≡ Some x = at_place points n x c.loop-x-test.true c.x-item.is in
    let pair : IsPairOf p x = by_places (IsPairOf p) points c.requires.pairs n x at in
    let number : c.in_ok-reached.reached.clause ≡ x.clause = c.in_ok-reached.ensures.clause in
    let is : IsSystemUpTo e rs pair.clause c.in_ok-reached.reached.atoms c.in_ok-reached.reached.system =
    c.in_ok-reached.ensures.reached pair.clause (let first = pair.first in omega (arith, number, first)) (subst (λ (k : ℕ). slice_get p.clauses (k - 1) ≡ Some pair.clause) (sym number) pair.there) in
    let here : c.pair_flaw.result ≡ Some c.in-Some.flaw = c.in-Some.is in
    let own : IsFirstOfPair (SystemHolds c.in_ok-reached.reached.system) (SystemFails c.in_ok-reached.reached.system) x c.loop-x.place c.in-Some.flaw =
    subst (λ (o : Option PointFlaw). IfSome o (IsFirstOfPair (SystemHolds c.in_ok-reached.reached.system) (SystemFails c.in_ok-reached.reached.system) x c.loop-x.place)) here c.pair_flaw.ensures.first in
    let rows = first_fails e rs pair.clause c.in_ok-reached.reached.atoms c.in_ok-reached.reached.system is x c.loop-x.place c.in-Some.flaw own in
    let clause : pair.clause ≡ clause_of p x = sym (ap clause_or_none pair.there) in
    record {
      i = n;
      x = x;
      there = at;
      earlier = λ k y lt ey. c.loop-x.invariant.points k lt y ey;
      first = subst (λ (place : ℕ). IsFirstOfPair (RowsHold e rs (clause_of p x) (x.call - 1)) (PointFails e rs (clause_of p x) (x.call - 1)) x place c.in-Some.flaw) c.loop-x.invariant.place
          (subst (λ (y : Clause). IsFirstOfPair (RowsHold e rs y (x.call - 1)) (PointFails e rs y (x.call - 1)) x c.loop-x.place c.in-Some.flaw) clause
          (subst (λ (j : ℕ). IsFirstOfPair (RowsHold e rs pair.clause j) (PointFails e rs pair.clause j) x c.loop-x.place c.in-Some.flaw) c.in_ok-reached.ensures.atoms rows));
    }

pub loop-x-preserved : goal.loop-x-preserved
loop-x-preserved g c =
    let e = g.N.Norm.expression c.args.norm.now in
    let p = c.args.p.now in
    let rs = rows_of c.args.sizes.now in
    let points = c.args.points.now in
    let n = c.loop-x.x-index in
    let x = c.x-item.result in
    let at : slice_get points n ≡ Some x = at_place points n x c.loop-x-test.true c.x-item.is in
    let pair : IsPairOf p x = by_places (IsPairOf p) points c.requires.pairs n x at in
    let number : c.in_ok-reached.reached.clause ≡ x.clause = c.in_ok-reached.ensures.clause in
    let is : IsSystemUpTo e rs pair.clause c.in_ok-reached.reached.atoms c.in_ok-reached.reached.system =
    c.in_ok-reached.ensures.reached pair.clause (let first = pair.first in omega (arith, number, first)) (subst (λ (k : ℕ). slice_get p.clauses (k - 1) ≡ Some pair.clause) (sym number) pair.there) in
    let decided : (c.pair_flaw.result ≡ None) ↔ PointHolds e p rs x =
    point_decided e rs pair.clause c.in_ok-reached.reached.atoms c.in_ok-reached.reached.system is p x (c.pair_flaw.result ≡ None) pair.there c.in_ok-reached.ensures.atoms c.pair_flaw.ensures.holds in
    record {
      place = omega (arith, c.loop-x.invariant.place, c.saturating_add-place.ensures, c.points_of.ensures, before_more points_of points n x at);
      reached = c.in_ok-reached.ensures.reached;
      points = below_more (λ (i : ℕ). (y : PairPoint) → slice_get points i ≡ Some y → PointHolds e p rs y) n c.loop-x.invariant.points
          (λ y ey. subst (PointHolds e p rs) (one_element points n x y at ey) (decided.0 c.in_default.is));
    }

pub returns-clause-hold : goal.returns-clause-hold
returns-clause-hold g c = (
  λ none. from_places (PointHolds (g.N.Norm.expression c.args.norm.now) c.args.p.now (rows_of c.args.sizes.now)) c.args.points.now (λ i x ex. c.loop-x.invariant.points i (omega (arith, place_below c.args.points.now i x ex)) x ex),
  λ all. refl,
)
