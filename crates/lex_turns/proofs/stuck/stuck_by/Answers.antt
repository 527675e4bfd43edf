use Rattle.std.proofs.Common.{map, ap, ◌∙◌, arith}
use Rattle.std.specs.Borrow.{Bor}
use Rattle.std.proofs.lemmas.List.{length-map}
use Rattle.call_components.specs.Numbers.{number_of}
use Rattle.termination_model.specs.sizes.Sizes.{rows_of}
use Rattle.level_systems.specs.Held.{IsHeld}
use Rattle.level_systems.specs.Turned.{held_of}
use Rattle.level_systems.specs.declared.own_call.OwnCall.{OwnCall}
use Rattle.level_dual.proofs.RefuteLaws.{are_pairs}
use Rattle.level_dual.proofs.Results.{if_ok}
use Rattle.lex_turns.proofs.PlainPoints.{plain_calls}
use Rattle.lex_turns.proofs.StickingLaws.{flawed_stopped, stuck_if, unrefuted_stopped}
use Rattle.lex_turns.proofs.TurnMaking.{pick}
use Rattle.lex_turns.proofs.stuck.stuck_by.Goals as goal

pub returns-in_default-clause-blown : goal.returns-in_default-clause-blown
returns-in_default-clause-blown g c = λ alone none comps r h.
    let norm = c.args.norm.now in
    let rows = rows_of c.args.sizes.now.rows in
    let round = c.args.attempt.now.round in
    let given = rw c.in_default.is at (c.in_ok-points.ensures.exact alone (g.N.Norm.size norm) (g.N.Norm.truth norm) (g.N.Norm.expression norm) comps rows r h) in
    unrefuted_stopped (g.N.Norm.size norm) (g.N.Norm.truth norm) (g.N.Norm.expression norm) c.args.p.now comps rows r c.args.component.now h round.at.now (held_of round.rest.now) given

pub accepted-requires-clause-pairs : goal.accepted-requires-clause-pairs
accepted-requires-clause-pairs g c =
    let p = c.args.p.now in
    let e = g.N.Norm.expression c.args.norm.now in
    let rows = rows_of c.args.sizes.now.rows in
    let rest = held_of c.args.attempt.now.round.rest.now in
    let plain = rw c.in-Some.is at c.in_ok-points.ensures.plain in
    are_pairs e p rows rest (pick (IsHeld e p rows) c.args.component.now.calls.items c.requires.held rest c.requires.among) c.in-Some.points (plain_calls rest plain.0 c.in-Some.points plain.1)

pub returns-clause-stuck : goal.returns-clause-stuck
returns-clause-stuck g c = if_ok c.accepted.result (λ o given. λ comps r h long.
    let norm = c.args.norm.now in
    let rest = c.args.attempt.now.round.rest.now in
    let count = length-map rest (λ (y : Bor OwnCall). y.now) in
    stuck_if (g.N.Norm.size norm) (g.N.Norm.truth norm) (g.N.Norm.expression norm) c.args.p.now comps (rows_of c.args.sizes.now.rows) r c.args.component.now h (held_of rest) c.requires.among (omega (arith, long, count))
    c.in-Some.points (rw c.in-Some.is at c.in_ok-points.ensures.plain) o (rw (ap (map number_of) c.as_slice.ensures.value ∙ h.members) at given)) c.accepted.ensures.some

pub returns-clause-blown : goal.returns-clause-blown
returns-clause-blown g c = λ alone. if_ok c.accepted.result (λ o fails. λ none comps r h.
    let norm = c.args.norm.now in
    let rows = rows_of c.args.sizes.now.rows in
    let round = c.args.attempt.now.round in
    let given = rw c.in-Some.is at (c.in_ok-points.ensures.exact alone (g.N.Norm.size norm) (g.N.Norm.truth norm) (g.N.Norm.expression norm) comps rows r h) in
    flawed_stopped (g.N.Norm.size norm) (g.N.Norm.truth norm) (g.N.Norm.expression norm) c.args.p.now comps rows r c.args.component.now h round.at.now (held_of round.rest.now) c.in-Some.points given
    (rw (ap (map number_of) c.as_slice.ensures.value ∙ h.members) at (fails none))) c.accepted.ensures.none
