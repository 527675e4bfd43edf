use Rattle.std.proofs.Common.{◌≡◌, ◌+◌, ◌≤◌, ◌≤ℤ◌, ◌++◌, ◌∷◌, [], ℤ, pos, List, All, drop, length, slice_get, Some, refl, ap, sym, subst, ◌∙◌, arith}
use Rattle.linear_rows.specs.Showing.{AreMultipliers}
use Rattle.linear_rows.specs.declared.multipliers.Multipliers.{Multipliers}
use Rattle.termination_model.proofs.Lists.{append_assoc, at_place}
use Rattle.level_systems.specs.Falling.{AreFallsOf, IsFallIf, ShowFalls, ShowsFall, by_of, values_after}
use Rattle.level_systems.specs.Recalled.{count_of, with_count}
use Rattle.level_systems.specs.declared.fall.Fall.{Fall}
use Rattle.level_systems.specs.declared.own_call.OwnCall.{OwnCall}
use Rattle.level_dual.proofs.FallSteps.{naturals_after, room_after, room_here}
use Rattle.level_systems.proofs.PairLists.{drop_all, drop_at}
use Rattle.level_dual.proofs.falling.falls_of.Goals as goal

pub returns-in_default : goal.returns-in_default
returns-in_default c = λ shows.
    let calls = c.args.calls.now in
    let i = c.loop-own.own-index in
    let own : OwnCall = c.own-item.result in
    let values = c.loop-own.values.now in
    let rest = drop (i + 1) calls in
    let at : slice_get calls i ≡ Some own = at_place calls i own c.loop-own-test.true c.own-item.is in
    let by : Multipliers = c.in_ok-by.by in
    let same : by ≡ by_of own values = λ j. record { scale = c.in_ok-by.ensures.scale j; list = c.in_ok-by.ensures.list j } in
    let here : ShowFalls c.args.measures.now (own ∷ rest) values = subst (λ (os : List OwnCall). ShowFalls c.args.measures.now os values) (drop_at calls i own at) (c.loop-own.invariant.rest shows) in
    let none = subst (IsFallIf c.args.measures.now own by) c.in_default.is c.in_ok-fall.ensures in
    none (subst (ShowsFall c.args.measures.now own) (sym same) here.0)

pub loop-own-preserved : goal.loop-own-preserved
loop-own-preserved c =
    let calls = c.args.calls.now in
    let ms = c.args.measures.now in
    let i = c.loop-own.own-index in
    let own : OwnCall = c.own-item.result in
    let values = c.loop-own.values.now in
    let inv = c.loop-own.invariant in
    let rest = drop (i + 1) calls in
    let n = length own.rows.list in
    let at : slice_get calls i ≡ Some own = at_place calls i own c.loop-own-test.true c.own-item.is in
    let step : drop i calls ≡ own ∷ rest = drop_at calls i own at in
    let by : Multipliers = c.in_ok-by.by in
    let fall : Fall = c.in-Some.fall in
    let same : by ≡ by_of own values = λ j. record { scale = c.in_ok-by.ensures.scale j; list = c.in_ok-by.ensures.list j } in
    let found = subst (IsFallIf ms own by) c.in-Some.is c.in_ok-fall.ensures in
    let facts = found.0 in
    let after : c.values_after-values.result.now ≡ values_after own.empty n values = c.values_after-values.ensures in
    let room : with_count own.empty n (count_of rest) ≤ length values = subst (λ (os : List OwnCall). count_of os ≤ length values) step inv.room in
    record {
      room = subst (λ (vs : List ℤ). count_of rest ≤ length vs) (sym after) (room_after own.empty n (count_of rest) values room);
      naturals = subst (λ (vs : List ℤ). All (λ x. pos 0 ≤ℤ x) vs) (sym after) (naturals_after own.empty n values inv.naturals);
      shown = λ h. inv.shown (subst (λ (os : List OwnCall). ShowFalls ms os values) (sym step) (subst (ShowsFall ms own) same found.1, subst (ShowFalls ms rest) after h));
      rest = λ h. subst (ShowFalls ms rest) (sym after) (subst (λ (os : List OwnCall). ShowFalls ms os values) step (inv.rest h)).1;
      falls = λ fs h.
          let whole = inv.falls (fall ∷ fs) (subst (λ (os : List OwnCall). AreFallsOf os values (fall ∷ fs)) (sym step)
          ((facts.0, facts.1, facts.2 ∙ same, subst (AreMultipliers n) (sym facts.2) c.in_ok-by.ensures.multipliers), subst (λ (vs : List ℤ). AreFallsOf rest vs fs) after h)) in
          subst (AreFallsOf calls c.args.values.now) (sym (ap (λ (gs : List Fall). gs ++ fs) c.in_ok-push.ensures.ok ∙ append_assoc c.loop-own.falls (fall ∷ []) fs)) whole;
    }

pub returns : goal.returns
returns c =
    let calls = c.args.calls.now in
    let end : drop c.loop-own.own-index calls ≡ [] = drop_all calls c.loop-own.own-index (omega (arith, c.loop-own-test.false)) in
    let values = c.loop-own.values.now in
    let inv = c.loop-own.invariant in (
      inv.shown (subst (λ (os : List OwnCall). ShowFalls c.args.measures.now os values) (sym end) tt),
      subst (AreFallsOf calls c.args.values.now) (append_none c.loop-own.falls) (inv.falls [] (subst (λ (os : List OwnCall). AreFallsOf os values []) (sym end) tt)),
    )
  where
    append_none : (fs : List Fall) → fs ++ [] ≡ fs
    append_none [] = refl
    append_none (f ∷ fs) = ap (λ s. f ∷ s) (append_none fs)

pub values_after-values-requires : goal.values_after-values-requires
values_after-values-requires c = λ none.
    let calls = c.args.calls.now in
    let i = c.loop-own.own-index in
    let own : OwnCall = c.own-item.result in
    let at : slice_get calls i ≡ Some own = at_place calls i own c.loop-own-test.true c.own-item.is in
    room_here own.empty (length own.rows.list) (count_of (drop (i + 1) calls)) c.loop-own.values.now (subst (λ (os : List OwnCall). count_of os ≤ length c.loop-own.values.now) (drop_at calls i own at) c.loop-own.invariant.room) none

pub multipliers_at-requires-clause-room : goal.multipliers_at-requires-clause-room
multipliers_at-requires-clause-room c = λ none.
    let calls = c.args.calls.now in
    let i = c.loop-own.own-index in
    let own : OwnCall = c.own-item.result in
    let at : slice_get calls i ≡ Some own = at_place calls i own c.loop-own-test.true c.own-item.is in
    room_here own.empty (length own.rows.list) (count_of (drop (i + 1) calls)) c.loop-own.values.now (subst (λ (os : List OwnCall). count_of os ≤ length c.loop-own.values.now) (drop_at calls i own at) c.loop-own.invariant.room) none
