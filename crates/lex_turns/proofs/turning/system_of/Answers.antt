use Rattle.std.proofs.Common.{map, ◌∙◌}
use Rattle.call_components.specs.Numbers.{number_of}
use Rattle.termination_model.specs.lists.TurnSystem.{turn_rows}
use Rattle.level_systems.specs.Held.{IsHeld, spelled}
use Rattle.level_systems.specs.Recalled.{HasNumbers}
use Rattle.level_systems.specs.Searched.{IsSoundCall}
use Rattle.level_systems.specs.Turned.{held_of}
use Rattle.level_systems.proofs.HeldCalls.{all_in, all_recall, re}
use Rattle.level_dual.proofs.Results.{if_ok}
use Rattle.termination_model.proofs.Readiness.{from_in}
use Rattle.lex_turns.proofs.TurnMaking.{pick}
use Rattle.lex_turns.proofs.turning.system_of.Goals as goal

pub turn_system-requires : goal.turn_system-requires
turn_system-requires c =
    let x = c.args.component.now in
    let rest = held_of c.args.round.now.rest.now in
    let calls = pick (IsSoundCall c.args.p.now (map number_of x.members.items)) x.calls.items c.requires.sound.calls rest c.requires.among in
    record { numbers = all_in HasNumbers rest (λ y i. let sound = from_in (IsSoundCall c.args.p.now (map number_of x.members.items)) rest calls y i in sound.numbers) }

pub returns-clause-rows : goal.returns-clause-rows
returns-clause-rows c = if_ok c.turn_system.result (λ system spells. λ size truth expression comps rows r h.
    let x = c.args.component.now in
    let own = re expression c.args.p.now comps rows r in
    let rest = held_of c.args.round.now.rest.now in
    let held = pick (IsHeld expression c.args.p.now rows) x.calls.items h.held rest c.requires.among in
    spells expression own (all_recall expression c.args.p.now comps rows r rest held)
    ∙ (λ j. turn_rows expression (map spelled c.args.round.now.at.now) (map number_of (c.as_slice.ensures.value j)) (map own rest))) c.turn_system.ensures.rows
