use Rattle.std.proofs.Common.{◌≡◌, ◌<◌, Bool, false, List, length, ap, sym, subst, ◌∙◌}
use Rattle.level_systems.specs.Turned.{held_of}
use Rattle.level_systems.specs.declared.own_call.OwnCall.{OwnCall}
use Rattle.lex_turns.specs.Coursing.{KeepReached}
use Rattle.lex_turns.specs.Testing.{AreAmong}
use Rattle.lex_turns.specs.Tracking.{after_falls, kept, staying}
use Rattle.lex_turns.specs.Turning.{IsMade, IsMadeStep}
use Rattle.lex_turns.proofs.Courses.{fewer_stay}
use Rattle.lex_turns.proofs.Leaving.{more_reached}
use Rattle.lex_turns.proofs.TrackedCalls.{after_long, kept_among, kept_count}
use Rattle.lex_turns.proofs.TurnMaking.{drops_long}
use Rattle.lex_turns.proofs.sparing.shrink.Goals as goal

pub turn-requires-clause-among : goal.turn-requires-clause-among
turn-requires-clause-among c =
    let calls = c.args.component.now.calls.items in
    let gone = c.args.gone.now.items in
    let rest_is : held_of c.as_slice-3.result.now ≡ kept calls gone = ap held_of c.as_slice-3.ensures.value ∙ c.in_ok-rest.ensures ∙ (λ i. kept (c.as_slice.ensures.value i) (c.as_slice-2.ensures.value i)) in
    subst (AreAmong calls) (sym rest_is) (kept_among calls calls gone (λ y i. i))

pub after_falls-requires : goal.after_falls-requires
after_falls-requires c =
    let x = c.args.component.now in
    let calls = x.calls.items in
    let gone = c.args.gone.now.items in
    let m = c.in-Made.made in
    let rest_is : held_of c.as_slice-3.result.now ≡ kept calls gone = ap held_of c.as_slice-3.ensures.value ∙ c.in_ok-rest.ensures ∙ (λ i. kept (c.as_slice.ensures.value i) (c.as_slice-2.ensures.value i)) in
    let made : IsMade x (kept calls gone) false m = subst (λ (os : List OwnCall). IsMade x os false m) rest_is (subst (IsMadeStep x (held_of c.as_slice-3.result.now) false) c.in-Made.is c.in_ok-made.ensures.made) in
    ap staying c.as_slice-in-Made.ensures.value ∙ sym (drops_long m.measures (kept calls gone) m.values m.falls made.drops ∙ kept_count calls gone c.requires.gone) ∙ ap length (sym c.as_slice-in-Made-2.ensures)

pub returns-in-Made-clause-gone : goal.returns-in-Made-clause-gone
returns-in-Made-clause-gone c = ap length c.in_ok-gone-in-Made.ensures ∙ after_long c.as_slice-in-Made.result.now c.as_slice-in-Made-2.result.now ∙ ap length c.as_slice-in-Made.ensures.value ∙ c.requires.gone

pub returns-in-Made-clause-reached : goal.returns-in-Made-clause-reached
returns-in-Made-clause-reached c =
    let calls = c.args.component.now.calls.items in
    subst (KeepReached calls) (sym c.in_ok-gone-in-Made.ensures)
    (more_reached calls c.as_slice-in-Made.result.now c.as_slice-in-Made-2.result.now (subst (KeepReached calls) (sym c.as_slice-in-Made.ensures.value) c.requires.reached))

pub returns-in-Made-clause-less : goal.returns-in-Made-clause-less
returns-in-Made-clause-less c =
    let x = c.args.component.now in
    let calls = x.calls.items in
    let gone = c.args.gone.now.items in
    let m = c.in-Made.made in
    let rest_is : held_of c.as_slice-3.result.now ≡ kept calls gone = ap held_of c.as_slice-3.ensures.value ∙ c.in_ok-rest.ensures ∙ (λ i. kept (c.as_slice.ensures.value i) (c.as_slice-2.ensures.value i)) in
    let made : IsMade x (kept calls gone) false m = subst (λ (os : List OwnCall). IsMade x os false m) rest_is (subst (IsMadeStep x (held_of c.as_slice-3.result.now) false) c.in-Made.is c.in_ok-made.ensures.made) in
    let after : c.in_ok-gone-in-Made.field-0.items ≡ after_falls gone m.falls = c.in_ok-gone-in-Made.ensures ∙ (λ i. after_falls (c.as_slice-in-Made.ensures.value i) (c.as_slice-in-Made-2.ensures i)) in
    subst (λ (gs : List Bool). staying gs < staying gone) (sym after)
    (fewer_stay gone m.falls (drops_long m.measures (kept calls gone) m.values m.falls made.drops ∙ kept_count calls gone c.requires.gone) made.some)
