use Rattle.std.proofs.Common.{length, ◌∙◌, arith}
use Rattle.std.specs.Borrow.{Bor}
use Rattle.std.proofs.lemmas.List.{length-map}
use Rattle.linear_rows.specs.Plain.{plain_rows}
use Rattle.linear_rows.specs.Rows.{IsPoint}
use Rattle.level_systems.specs.Turned.{held_of}
use Rattle.level_systems.specs.declared.own_call.OwnCall.{OwnCall}
use Rattle.level_dual.proofs.Results.{if_ok}
use Rattle.lex_turns.proofs.WholeTurns.{some_made, some_turn}
use Rattle.lex_turns.proofs.TurnMaking.{count_held, point_long, point_naturals}
use Rattle.lex_turns.proofs.whole.whole_turn.Goals.{In-Ok-Point}
use Rattle.lex_turns.proofs.whole.whole_turn.Goals as goal

point : (c : In-Ok-Point) → IsPoint c.in_ok-system.system.width (plain_rows c.in_ok-system.system.list) c.in-Ok-Point.point.t c.in-Ok-Point.point.w
point c = rw c.in-Ok-Point.field-0-is at c.in-Ok-Point.ensures.decides

pub made_at-requires-clause-naturals : goal.made_at-requires-clause-naturals
made_at-requires-clause-naturals c = point_naturals (point (goal.at.made_at-requires-clause-naturals c).In-Ok-Point)

pub made_at-requires-clause-long : goal.made_at-requires-clause-long
made_at-requires-clause-long c = point_long (point (goal.at.made_at-requires-clause-long c).In-Ok-Point) ∙ c.in_ok-system.ensures.width

pub returns-in-Ok-Point-clause-made : goal.returns-in-Ok-Point-clause-made
returns-in-Ok-Point-clause-made c =
    let round = c.args.round.now in
    if_ok c.made_at.result (λ o made. some_made c.args.p.now c.args.component.now round.at.now (held_of round.rest.now) round.first c.in-Ok-Point.point.w o made) c.made_at.ensures

pub returns-in-Ok-Point-clause-turn : goal.returns-in-Ok-Point-clause-turn
returns-in-Ok-Point-clause-turn c =
    let x = c.args.component.now in
    let round = c.args.round.now in
    let count = length-map round.rest.now (λ (y : Bor OwnCall). y.now) in
    let solved = point (goal.at.returns-in-Ok-Point-clause-turn c).In-Ok-Point in
    let long = count_held round.rest.now (length round.at.now) (length x.by_clauses.items) (length c.in-Ok-Point.point.w) (point_long solved ∙ c.in_ok-system.ensures.width) in
    if_ok c.made_at.result (λ o made.
    some_turn c.args.p.now x c.requires.sound round.at.now (held_of round.rest.now) c.requires.among (omega (arith, count, c.requires.some)) c.in-Ok-Point.point.w (point_naturals solved) long round.first o made) c.made_at.ensures
