use Rattle.std.proofs.Common.{◌≡◌, List, ap, sym, subst, refl, ◌∙◌}
use Rattle.std.specs.Borrow.{Bor}
use Rattle.termination_model.specs.sizes.Sizes.{rows_of}
use Rattle.level_systems.specs.Turned.{held_of}
use Rattle.level_systems.specs.declared.own_call.OwnCall.{OwnCall}
use Rattle.level_dual.proofs.Results.{if_ok}
use Rattle.lex_turns.specs.Coursing.{CannotTurn, is_none}
use Rattle.lex_turns.specs.Testing.{AreAmong}
use Rattle.lex_turns.specs.Tracking.{kept}
use Rattle.lex_turns.proofs.Courses.{blown_given_up}
use Rattle.lex_turns.proofs.TrackedCalls.{kept_among}
use Rattle.lex_turns.proofs.stuck.stuck_set.Goals as goal

pub stuck_by-requires-clause-among : goal.stuck_by-requires-clause-among
stuck_by-requires-clause-among g c =
    let x = c.args.component.now in
    let gone = c.args.halt.now.gone.now in
    let rest_is : held_of c.as_slice-2.result.now ≡ kept x.calls.items gone =
    ap (λ (bs : List (Bor OwnCall)). held_of bs) c.as_slice-2.ensures.value ∙ c.in_ok-rest.ensures ∙ ap (λ (owns : List OwnCall). kept owns gone) c.as_slice.ensures.value in
    subst (AreAmong x.calls.items) (sym rest_is) (kept_among x.calls.items x.calls.items gone (λ y i. i))

pub stuck_by-requires-2-clause-among : goal.stuck_by-requires-2-clause-among
stuck_by-requires-2-clause-among g c =
    let x = c.args.component.now in
    let gone = c.args.halt.now.gone.now in
    let rest_is : held_of c.as_slice-2.result.now ≡ kept x.calls.items gone =
    ap (λ (bs : List (Bor OwnCall)). held_of bs) c.as_slice-2.ensures.value ∙ c.in_ok-rest.ensures ∙ ap (λ (owns : List OwnCall). kept owns gone) c.as_slice.ensures.value in
    subst (AreAmong x.calls.items) (sym rest_is) (kept_among x.calls.items x.calls.items gone (λ y i. i))

pub returns-clause-given_up : goal.returns-clause-given_up
returns-clause-given_up g c = if_ok c.stuck_by-2.result (λ o blown. λ none comps r h covers stopped.
    let p = c.args.p.now in
    let size = g.N.Norm.size c.args.norm.now in
    let truth = g.N.Norm.truth c.args.norm.now in
    let e = g.N.Norm.expression c.args.norm.now in
    let rows = rows_of c.args.sizes.now.rows in
    let at = c.args.halt.now.at.now in
    let x = c.args.component.now in
    let gone = c.args.halt.now.gone.now in
    let rest_is : held_of c.as_slice-2.result.now ≡ kept x.calls.items gone =
    ap (λ (bs : List (Bor OwnCall)). held_of bs) c.as_slice-2.ensures.value ∙ c.in_ok-rest.ensures ∙ ap (λ (owns : List OwnCall). kept owns gone) c.as_slice.ensures.value in
    let now = blown none comps r h gone (sym rest_is) covers stopped (is_none stopped.measures) in
    blown_given_up size truth e p comps rows r x h at stopped.measures (kept x.calls.items gone) stopped.turns stopped.some (subst (CannotTurn e p comps rows r x at (is_none stopped.measures)) rest_is now)) (c.stuck_by-2.ensures.blown refl)
