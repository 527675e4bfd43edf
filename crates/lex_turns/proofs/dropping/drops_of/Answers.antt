use Rattle.std.proofs.Common.{◌≡◌, ◌⊎◌, ◌+◌, ◌∷◌, [], Bool, List, drop, length, slice_get, Some, inl, inr, ap, arith}
use Rattle.std.specs.Borrow.{Bor}
use Rattle.std.proofs.lemmas.List.{append-nil}
use Rattle.termination_model.proofs.Lists.{append_assoc, at_place, by_places}
use Rattle.level_systems.specs.Falling.{HasParts, IsReady}
use Rattle.level_systems.specs.Turned.{all_rows, held_of}
use Rattle.level_systems.specs.declared.own_call.OwnCall.{OwnCall}
use Rattle.level_systems.proofs.PairLists.{drop_all, drop_at}
use Rattle.level_systems.proofs.TurnSteps.{said_of}
use Rattle.level_dual.proofs.PartLaws.{all_dropped}
use Rattle.lex_turns.specs.Testing.{ShowDrops, SomeFalls, first_by}
use Rattle.lex_turns.proofs.DropSteps.{drop_shown, fall_or, later_shown, length_after, none_shown}
use Rattle.lex_turns.proofs.dropping.drops_of.Goals.{After-own-item}
use Rattle.lex_turns.proofs.dropping.drops_of.Goals as goal

-- a call that remains, and those after it
module _ (c : After-own-item) where
  own_at : slice_get c.args.rest.now c.loop-own.own-index ≡ Some c.own-item.result
  own_at = at_place c.args.rest.now c.loop-own.own-index c.own-item.result c.loop-own-test.true c.own-item.is

  step : drop c.loop-own.own-index c.args.rest.now ≡ c.own-item.result ∷ drop (c.loop-own.own-index + 1) c.args.rest.now
  step = drop_at c.args.rest.now c.loop-own.own-index c.own-item.result own_at

  rows : all_rows (held_of (drop c.loop-own.own-index c.args.rest.now)) ≡ length c.own-item.result.now.rows.list + all_rows (held_of (drop (c.loop-own.own-index + 1) c.args.rest.now))
  rows = ap (λ (os : List (Bor OwnCall)). all_rows (held_of os)) step

pub drop_at-requires-clause-parts : goal.drop_at-requires-clause-parts
drop_at-requires-clause-parts c =
    let calls = c.args.rest.now in
    let own = own_at (goal.at.drop_at-requires-clause-parts c).After-own-item in
    by_places (λ (x : Bor OwnCall). HasParts c.args.measures.now x.now) calls (said_of (HasParts c.args.measures.now) calls c.requires.parts) c.loop-own.own-index c.own-item.result own

pub drop_at-requires-clause-ready : goal.drop_at-requires-clause-ready
drop_at-requires-clause-ready c =
    let calls = c.args.rest.now in
    let own = own_at (goal.at.drop_at-requires-clause-ready c).After-own-item in
    by_places (λ (x : Bor OwnCall). IsReady x.now) calls (said_of IsReady calls c.requires.ready) c.loop-own.own-index c.own-item.result own

pub drop_at-requires-clause-room : goal.drop_at-requires-clause-room
drop_at-requires-clause-room c = omega (arith, rows (goal.at.drop_at-requires-clause-room c).After-own-item, c.loop-own.invariant.room)

pub returns-in_default : goal.returns-in_default
returns-in_default c = λ gs shown.
    let here = c.loop-own.invariant.only gs shown in
    let none = rw c.in_default.is at c.in_ok-fall.ensures in
    none_shown c.args.measures.now c.own-item.result.now (held_of (drop (c.loop-own.own-index + 1) c.args.rest.now)) c.loop-own.values.now here.0 none (rw (step (goal.at.returns-in_default c).After-own-item) at here.1)

pub loop-own-preserved : goal.loop-own-preserved
loop-own-preserved c =
    let here = (goal.at.loop-own-preserved c).After-own-item in
    let ms = c.args.measures.now in
    let own : OwnCall = c.own-item.result.now in
    let values = c.loop-own.values.now in
    let inv = c.loop-own.invariant in
    let others = held_of (drop (c.loop-own.own-index + 1) c.args.rest.now) in
    let n = length own.rows.list in
    let fall : Bool = c.in-Some.fall in
    let found = rw c.in-Some.is at c.in_ok-fall.ensures in
    let after : c.later_values-values.result.now ≡ drop n values = c.later_values-values.ensures in
    record {
      room = rw after (length_after values n (all_rows others) (omega (arith, rows here, inv.room)));
      naturals = rw after (all_dropped n values inv.naturals);
      shown = λ gs h.
          let whole = inv.shown (fall ∷ gs) (rw (step here) (drop_shown ms own (first_by own values) fall found, rw after at h)) in
          rw (c.in_ok-push.ensures.ok, append_assoc c.loop-own.falls (fall ∷ []) gs) whole;
      only = λ gs h.
          let old = inv.only gs h in
          let later = later_shown ms own others values fall old.0 found (rw (step here) at old.1) in (
            later.0,
            rw after later.1,
            λ s. rw c.in_ok-push.ensures.ok (fall_or c.loop-own.falls fall old.0 later.0 (old.2 s) later.2),
          );
    }

pub returns : goal.returns
returns c =
    let end = drop_all c.args.rest.now c.loop-own.own-index (omega (arith, c.loop-own-test.false)) in
    let inv = c.loop-own.invariant in (
      rw (append-nil c.loop-own.falls) at (inv.shown [] (rw end tt)),
      λ gs h s. let old = inv.only gs h in no_more old.0 (rw end at old.1) (old.2 s),
    )
  where
    no_more : (hs : List Bool) → ShowDrops c.args.measures.now [] c.loop-own.values.now hs → (SomeFalls c.loop-own.falls ⊎ SomeFalls hs) → SomeFalls c.loop-own.falls
    no_more [] h (inl s) = s
    no_more [] h (inr s) = absurd s
    no_more (f ∷ hs) h s = absurd h

pub later_values-values-requires : goal.later_values-values-requires
later_values-values-requires c = omega (arith, rows (goal.at.later_values-values-requires c).After-own-item, c.loop-own.invariant.room)
