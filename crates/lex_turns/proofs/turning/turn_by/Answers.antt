use Rattle.std.proofs.Common.{◌≡◌, ◌+◌, ℕ, ℤ, List, length, map, subst, ◌∙◌, arith}
use Rattle.std.specs.Borrow.{Bor}
use Rattle.std.proofs.lemmas.List.{length-map}
use Rattle.call_components.specs.Numbers.{number_of}
use Rattle.linear_rows.specs.Plain.{plain_rows}
use Rattle.linear_rows.specs.Proves.{Refutes}
use Rattle.linear_rows.specs.Rows.{IsPoint}
use Rattle.termination_model.specs.lists.TurnSystem.{turn_rows}
use Rattle.level_systems.specs.Held.{spelled}
use Rattle.level_systems.specs.Turned.{all_rows, held_of}
use Rattle.level_systems.specs.declared.own_call.OwnCall.{OwnCall}
use Rattle.level_systems.proofs.HeldCalls.{re}
use Rattle.lex_turns.proofs.TurnMaking.{count_held, made_turn, mapping_blown, point_long, point_naturals, solving_blown, width_is}
use Rattle.lex_turns.proofs.turning.turn_by.Goals.{In_ok-system, In-Ok-Point}
use Rattle.lex_turns.proofs.turning.turn_by.Goals as goal

-- how many unknowns the system has, and the point that solves it
unknowns : (c : In_ok-system) → let rest = held_of c.args.round.now.rest.now in c.in_ok-system.system.width ≡ length c.args.round.now.at.now + (length c.args.component.now.by_clauses.items + (length rest + all_rows rest))
unknowns c = count_held c.args.round.now.rest.now (length c.args.round.now.at.now) (length c.args.component.now.by_clauses.items) c.in_ok-system.system.width c.in_ok-system.ensures.width

point : (c : In-Ok-Point) → IsPoint c.in_ok-system.system.width (plain_rows c.in_ok-system.system.list) c.in-Ok-Point.point.t c.in-Ok-Point.point.w
point c = rw c.in-Ok-Point.field-0-is at c.in-Ok-Point.ensures.decides

pub made_at-requires-clause-naturals : goal.made_at-requires-clause-naturals
made_at-requires-clause-naturals c = point_naturals (point (goal.at.made_at-requires-clause-naturals c).In-Ok-Point)

pub made_at-requires-clause-long : goal.made_at-requires-clause-long
made_at-requires-clause-long c = point_long (point (goal.at.made_at-requires-clause-long c).In-Ok-Point) ∙ c.in_ok-system.ensures.width

pub returns-in-Some-clause-some : goal.returns-in-Some-clause-some
returns-in-Some-clause-some c = λ size truth expression comps rows r h.
    let here = goal.at.returns-in-Some-clause-some c in
    let round = c.args.round.now in
    let count = length-map round.rest.now (λ (y : Bor OwnCall). y.now) in
    let solved = point here.In-Ok-Point in
    let made = rw c.in-Some.is at c.in_ok-made-in-Ok-Point.ensures in (
      made.1,
      made_turn size truth expression c.args.p.now comps rows r c.args.component.now h c.requires.sound round.at.now (held_of round.rest.now) c.requires.among (omega (arith, count, c.requires.some)) c.in-Ok-Point.point.w
          (point_naturals solved) (point_long solved ∙ unknowns here.In_ok-system) round.first c.in-Some.made made.0 made.1,
    )

pub returns-in-Ok-Point-clause-none : goal.returns-in-Ok-Point-clause-none
returns-in-Ok-Point-clause-none c = λ _ alone size truth expression comps rows r h.
    let here = goal.at.returns-in-Ok-Point-clause-none c in
    let system = c.in_ok-system.system in
    let round = c.args.round.now in
    let none = rw c.in-None.is at c.in_ok-made-in-Ok-Point.ensures in
    let found = rw c.in-Ok-Point.field-0-is at (c.in-Ok-Point.ensures.exact alone) in
    mapping_blown size truth expression c.args.p.now comps rows r c.args.component.now h c.requires.sound round.at.now (held_of round.rest.now) c.requires.among system.width (plain_rows system.list)
    (unknowns here.In_ok-system) (c.in_ok-system.ensures.rows size truth expression comps rows r h) c.in-Ok-Point.point.t c.in-Ok-Point.point.w found (point here.In-Ok-Point) round.first none.0 none.1 none.2

pub returns-in-Ok-Refuted-clause-some : goal.returns-in-Ok-Refuted-clause-some
returns-in-Ok-Refuted-clause-some c = λ size truth expression comps rows r h.
    let system = c.in_ok-system.system in
    let x = c.args.component.now in
    let p = c.args.p.now in
    let round = c.args.round.now in
    let rest = held_of round.rest.now in
    let by = c.in-Ok-Refuted.field-0-0.list in
    let told = rw c.in-Ok-Refuted.field-0-is at c.in-Ok-Refuted.ensures.decides in
    let lines = c.in_ok-system.ensures.rows size truth expression comps rows r h in
    let width = width_is size truth expression p comps rows r x h c.requires.sound round.at.now rest c.requires.among system.width (plain_rows system.list) (unknowns (goal.at.returns-in-Ok-Refuted-clause-some c).In_ok-system) lines in (
      by,
      subst (λ (n : ℕ). Refutes n (turn_rows expression (map spelled round.at.now) (map number_of x.by_clauses.items) (map (re expression p comps rows r) rest)) by) width
          (subst (λ (rs : List (List ℤ)). Refutes system.width rs by) lines told.1),
    )

pub returns-in-Err-Blown-clause-some : goal.returns-in-Err-Blown-clause-some
returns-in-Err-Blown-clause-some c = λ size truth expression comps rows r h.
    let system = c.in_ok-system.system in
    let round = c.args.round.now in
    let blown = rw c.in-Err-Blown.field-0-is at c.in-Err-Blown.ensures.blown in
    solving_blown size truth expression c.args.p.now comps rows r c.args.component.now h c.requires.sound round.at.now (held_of round.rest.now) c.requires.among system.width (plain_rows system.list)
    (unknowns (goal.at.returns-in-Err-Blown-clause-some c).In_ok-system) (c.in_ok-system.ensures.rows size truth expression comps rows r h) round.first c.in-Err-Blown.field-0-0 c.in-Err-Blown.field-0-1 blown

pub returns-in-Some-clause-made : goal.returns-in-Some-clause-made
returns-in-Some-clause-made c = let made = rw c.in-Some.is at c.in_ok-made-in-Ok-Point.ensures in made.1
