use Rattle.std.proofs.Common.{◌≡◌, ◌+◌, ◌-◌, ◌++◌, ◌∷◌, [], suc, List, drop, length, map, slice_get, Some, ap, sym, ◌∙◌, arith}
use Rattle.std.specs.Borrow.{Bor}
use Rattle.std.proofs.lemmas.List.{append-nil, length-drop, length-map}
use Rattle.call_components.specs.Numbers.{number_of}
use Rattle.linear_rows.specs.Plain.{plain_row, plain_rows}
use Rattle.termination_model.specs.lists.TurnSystem.{sum_row, turn_rows_from}
use Rattle.termination_model.proofs.Lists.{at_place, by_places, map_push}
use Rattle.level_systems.specs.Held.{spelled}
use Rattle.level_systems.specs.Recalled.{HasNumbers, Recalls}
use Rattle.level_systems.specs.Turned.{all_rows, held_of}
use Rattle.level_systems.specs.declared.own_call.OwnCall.{OwnCall}
use Rattle.level_systems.proofs.PairLists.{drop_all, drop_at}
use Rattle.level_systems.proofs.SystemSteps.{dropped_all}
use Rattle.level_systems.proofs.TurnSteps.{one_turn, rows_are, said_back, said_of, sum_length, sum_same}
use Rattle.level_systems.proofs.turn_rows.turn_system.Goals as goal

pub add_turn-requires-clause-numbers : goal.add_turn-requires-clause-numbers
add_turn-requires-clause-numbers c =
    let calls = c.args.calls.now in
    let i = c.loop-own.own-index in
    by_places (λ (x : Bor OwnCall). HasNumbers x.now) calls (said_of HasNumbers calls c.requires.numbers) i c.own-item.result (at_place calls i c.own-item.result c.loop-own-test.true c.own-item.is)

pub loop-own-preserved : goal.loop-own-preserved
loop-own-preserved c =
    let calls = c.args.calls.now in
    let i = c.loop-own.own-index in
    let own : OwnCall = c.own-item.result.now in
    let inv = c.loop-own.invariant in
    let positions = map spelled c.args.positions.now in
    let members = map number_of c.args.members.now in
    let rest = drop (i + 1) calls in
    let at : slice_get calls i ≡ Some c.own-item.result = at_place calls i c.own-item.result c.loop-own-test.true c.own-item.is in
    let here : drop i calls ≡ c.own-item.result ∷ rest = drop_at calls i c.own-item.result at in
    let long : c.len-rows.result ≡ length own.rows.list = c.len-rows.ensures in
    let counts : all_rows (held_of (drop i calls)) ≡ length own.rows.list + all_rows (held_of rest) = ap (λ os. all_rows (held_of os)) here in
    let many : length (drop i calls) ≡ suc (length rest) = ap length here in
    let all_left : length (drop i calls) ≡ length calls - i = length-drop i calls in
    let others_left : length (held_of rest) ≡ length rest = length-map rest (λ c. c.now) in
    let total = inv.count in
    record {
      count = omega (arith, total, counts, long);
      place = omega (arith, inv.place);
      width = c.add_turn.ensures.width ∙ inv.width;
      widths = c.add_turn.ensures.widths inv.widths;
      rows = λ expression re all.
          let said = said_of (λ (x : OwnCall). Recalls expression (re x) x) calls all in
          let same = by_places (λ (x : Bor OwnCall). Recalls expression (re x.now) x.now) calls said i c.own-item.result at in
          let others = said_back (λ (x : OwnCall). Recalls expression (re x) x) rest (dropped_all (λ (x : Bor OwnCall). Recalls expression (re x.now) x.now) calls (i + 1) said) in
          one_turn expression re positions members own (held_of rest) c.loop-own.earlier (length calls - c.loop-own.earlier - 1) c.loop-own.before (c.in_ok-count.count - c.loop-own.before - c.len-rows.result) c.len-rows.result
          (plain_rows c.loop-own.system.list) (plain_rows c.add_turn.new.system.list) same others (omega (arith, inv.place, many, all_left, others_left)) (omega (arith, total, counts, long)) long (c.in_ok-add_turn.ensures.rows expression (re own) same)
          ∙ sym (ap (λ (os : List (Bor OwnCall)). plain_rows c.loop-own.system.list ++ turn_rows_from expression positions members c.loop-own.earlier c.loop-own.before (map re (held_of os))) here)
          ∙ inv.rows expression re all;
    }

pub push-requires : goal.push-requires
push-requires c =
    let long : suc (length c.in_ok-last.last.coeffs) ≡ _ = ap length c.in_ok-last.ensures in
    omega (arith, long, sum_length (length c.args.positions.now) (length c.args.members.now) (length c.args.calls.now) c.in_ok-count.count, c.loop-own.invariant.width)

pub returns-clause-rows : goal.returns-clause-rows
returns-clause-rows c = λ expression re all.
    let calls = c.args.calls.now in
    let positions = map spelled c.args.positions.now in
    let members = map number_of c.args.members.now in
    let owns = held_of calls in
    let none : drop c.loop-own.own-index calls ≡ [] = drop_all calls c.loop-own.own-index (omega (arith, c.loop-own-test.false)) in
    let count : c.in_ok-count.count ≡ all_rows owns = c.in_ok-count.ensures in
    let many : length calls ≡ length (map re owns) = sym (length-map owns re ∙ length-map calls (λ c. c.now)) in
    let all_made : plain_rows c.loop-own.system.list ≡ turn_rows_from expression positions members 0 0 (map re owns) =
    sym (append-nil (plain_rows c.loop-own.system.list))
    ∙ sym (ap (λ (os : List (Bor OwnCall)). plain_rows c.loop-own.system.list ++ turn_rows_from expression positions members c.loop-own.earlier c.loop-own.before (map re (held_of os))) none)
    ∙ c.loop-own.invariant.rows expression re all in
    let last : plain_row c.in_ok-last.last ≡ sum_row expression positions members (map re owns) =
    c.in_ok-last.ensures ∙ sum_same expression c.args.positions.now c.args.members.now (map re owns) (length calls) c.in_ok-count.count many (count ∙ sym (rows_are expression re positions members owns all)) in
    ap plain_rows c.in_ok-push.ensures.ok ∙ map_push plain_row c.loop-own.system.list c.in_ok-last.last ∙ (λ j. all_made j ++ last j ∷ [])
