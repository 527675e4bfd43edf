use Rattle.std.proofs.Common.{rules, ◌≡◌, ◌+◌, ◌-◌, ◌++◌, ◌∷◌, List, drop, length, map, slice_get, None, Some, ap, sym, ◌∙◌, arith}
use Rattle.call_components.specs.Numbers.{number_of}
use Rattle.linear_rows.specs.Plain.{plain_rows}
use Rattle.termination_model.specs.mappings.SupportSystem.{rows_from}
use Rattle.termination_model.proofs.Lists.{at_place, by_places}
use Rattle.level_systems.specs.Held.{live_of, spelled}
use Rattle.level_systems.specs.Recalled.{Recalls, count_of}
use Rattle.level_systems.specs.declared.own_call.OwnCall.{OwnCall}
use Rattle.level_systems.proofs.PairLists.{drop_at}
use Rattle.level_systems.proofs.SystemSteps.{count_here, dropped_all, one_call}
use Rattle.level_systems.proofs.support_rows.support_system.Goals as goal

pub loop-own-preserved : goal.loop-own-preserved
loop-own-preserved c =
    let calls = c.args.calls.now in
    let i = c.loop-own.own-index in
    let own : OwnCall = c.own-item.result in
    let inv = c.loop-own.invariant in
    let positions = map spelled c.args.positions.now in
    let members = map number_of c.args.members.now in
    let rest = drop (i + 1) calls in
    let at : slice_get calls i ≡ Some own = at_place calls i own c.loop-own-test.true c.own-item.is in
    let here : drop i calls ≡ own ∷ rest = drop_at calls i own at in
    let none : own.empty ≡ None = search rules in
    let long : c.len-in-loop-own.result ≡ length own.rows.list = c.len-in-loop-own.ensures in
    let first : c.len.result ≡ length own.rows.list = c.len.ensures in
    let counts : count_of (drop i calls) ≡ length own.rows.list + count_of rest = ap count_of here ∙ count_here own rest none in
    let total = inv.count in
    record {
      count = omega (arith, total, counts, long);
      width = c.add_call.ensures.width ∙ inv.width;
      widths = c.add_call.ensures.widths inv.widths;
      rows = λ expression re all.
          let same = by_places (λ (x : OwnCall). Recalls expression (re x) x) calls all i own at in
          let others = dropped_all (λ (x : OwnCall). Recalls expression (re x) x) calls (i + 1) all in
          one_call expression re positions members own rest c.loop-own.before (c.in_ok-count.count - c.loop-own.before - c.len.result) c.len-in-loop-own.result
          (plain_rows c.loop-own.system.list) (plain_rows c.add_call.new.system.list) none same others (omega (arith, total, counts, first)) long (c.in_ok-add_call.ensures.rows expression (re own) same)
          ∙ sym (ap (λ (os : List OwnCall). plain_rows c.loop-own.system.list ++ rows_from expression positions members c.loop-own.before (map re (live_of os))) here)
          ∙ inv.rows expression re all;
    }
