use Rattle.std.proofs.Common.{rules, ◌≡◌, ◌+◌, suc, ℤ, List, drop, take, slice_get, None, Some, true, sym, subst, arith}
use Rattle.termination_model.proofs.Lists.{at_place, by_places}
use Rattle.termination_model.proofs.Readiness.{at_of}
use Rattle.level_systems.specs.Held.{live_of}
use Rattle.level_systems.specs.Refuted.{ArePoints, AreSpelled, HasWidths, IsAdded}
use Rattle.level_systems.specs.declared.own_call.OwnCall.{OwnCall}
use Rattle.level_dual.proofs.PointLists.{live_here, points_end, points_more, rest_whole, spelled_more}
use Rattle.level_dual.proofs.refuting.points_of.Goals as goal

pub add_point-requires-clause-widths : goal.add_point-requires-clause-widths
add_point-requires-clause-widths c =
    let calls = c.args.calls.now in
    let i = c.loop-own.own-index in
    let own : OwnCall = c.own-item.result in
    let at : slice_get calls i ≡ Some own = at_place calls i own c.loop-own-test.true c.own-item.is in
    by_places HasWidths calls c.requires i own at

pub loop-own-preserved : goal.loop-own-preserved
loop-own-preserved c =
    let calls = c.args.calls.now in
    let i = c.loop-own.own-index in
    let own : OwnCall = c.own-item.result in
    let at : slice_get calls i ≡ Some own = at_place calls i own c.loop-own-test.true c.own-item.is in
    let none : own.empty ≡ None = search rules in
    let numbers : List ℤ = c.loop-own.numbers.now in
    let n = own.rows.width + 1 in
    let long : n ≡ suc own.rows.width = omega arith in
    let here = live_here calls i own at none in
    let rest = live_of (drop (i + 1) calls) in
    let left = rest_whole n numbers in
    let inv = c.loop-own.invariant in
    record {
      mine = c.in_ok-add_point.ensures.mine calls (at_of calls i own at) inv.mine;
      rest = λ alone.
          let added : IsAdded own (take n numbers) c.loop-own.points c.add_point.new.points true =
          subst (IsAdded own (take n numbers) c.loop-own.points c.add_point.new.points) c.if-not-branch.false (c.in_ok-add_point.ensures.exact alone) in
          λ xs points.
          points_more (ArePoints (live_of calls) c.args.numbers.now) own rest numbers n c.loop-own.points c.add_point.new.points long added
          (λ ys p. inv.rest alone ys (subst (λ (owns : List OwnCall). ArePoints owns numbers ys) (sym here) p)) xs (subst (λ (zs : List ℤ). ArePoints rest zs xs) left points);
      spelled = λ alone h.
          subst (AreSpelled rest) (sym left) (spelled_more own rest numbers n long (subst (λ (owns : List OwnCall). AreSpelled owns numbers) here (inv.spelled alone h)));
    }

pub returns-clause-exact : goal.returns-clause-exact
returns-clause-exact c = λ alone.
    let calls = c.args.calls.now in
    points_end (ArePoints (live_of calls) c.args.numbers.now) calls c.loop-own.own-index c.loop-own.numbers.now c.loop-own.points c.loop-own-test.false (c.loop-own.invariant.rest alone)
