use Rattle.std.proofs.Common.{◌≡◌, ℕ, ℤ, List, length, subst}
use Rattle.linear_rows.specs.Plain.{plain_rows}
use Rattle.linear_rows.specs.Proves.{Refutes}
use Rattle.linear_rows.specs.Rows.{IsPoint}
use Rattle.linear_rows.specs.Solving.{solution}
use Rattle.linear_rows.specs.Solving.Solution.{Blown, Refuted}
use Rattle.level_dual.specs.Components.{ForComponent}
use Rattle.level_systems.specs.Turned.{held_of}
use Rattle.level_dual.proofs.Results.{if_ok}
use Rattle.lex_turns.specs.Sticking.{lines_of, unknowns_of}
use Rattle.lex_turns.specs.Sticking.IsUnrefuted.{blown, found}
use Rattle.lex_turns.proofs.StickingLaws.{refuting_if}
use Rattle.lex_turns.proofs.TurnMaking.{count_held, width_is}
use Rattle.lex_turns.proofs.stuck.refuting_points.Goals.{In_ok-system}
use Rattle.lex_turns.proofs.stuck.refuting_points.Goals as goal

-- what is said of the rows that are made is said of the turn's system
moved : (c : In_ok-system) (T : ℕ → List (List ℤ) → Type 0) → T c.in_ok-system.system.width (plain_rows c.in_ok-system.system.list) → let round = c.args.attempt.now.round in let x = c.args.component.now in
    ForComponent c.args.p.now x (λ expression comps rows r. T (unknowns_of expression c.args.p.now comps rows r x round.at.now (held_of round.rest.now)) (lines_of expression c.args.p.now comps rows r x round.at.now (held_of round.rest.now)))
moved c T told size truth expression comps rows r h =
    let system = c.in_ok-system.system in
    let x = c.args.component.now in
    let p = c.args.p.now in
    let round = c.args.attempt.now.round in
    let rest = held_of round.rest.now in
    let lines = c.in_ok-system.ensures.rows size truth expression comps rows r h in
    let count = count_held round.rest.now (length round.at.now) (length x.by_clauses.items) system.width c.in_ok-system.ensures.width in
    let width = width_is size truth expression p comps rows r x h c.requires.sound round.at.now rest c.requires.among system.width (plain_rows system.list) count lines in
    subst (λ (n : ℕ). T n (lines_of expression p comps rows r x round.at.now rest)) width (subst (T system.width) lines told)

pub returns-in-Ok-Refuted-clause-exact : goal.returns-in-Ok-Refuted-clause-exact
returns-in-Ok-Refuted-clause-exact c = λ alone.
    let here = (goal.at.returns-in-Ok-Refuted-clause-exact c).In_ok-system in
    let x = c.args.component.now in
    let p = c.args.p.now in
    let round = c.args.attempt.now.round in
    let rest = held_of round.rest.now in
    let by = c.in-Ok-Refuted.by.list in
    let told = rw c.in-Ok-Refuted.field-0-is at (c.in-Ok-Refuted.ensures.exact alone) in
    let decided = rw c.in-Ok-Refuted.field-0-is at c.in-Ok-Refuted.ensures.decides in
    if_ok c.points_of.result (λ o are. λ size truth expression comps rows r h.
    refuting_if rest (unknowns_of expression p comps rows r x round.at.now rest) (lines_of expression p comps rows r x round.at.now rest) by
    (moved here (λ n lines. solution n lines ≡ Refuted by) told.1 size truth expression comps rows r h) (moved here (λ n lines. Refutes n lines by) decided.1 size truth expression comps rows r h)
    o (rw c.as_slice.ensures at are)) c.points_of.ensures

pub returns-in-Ok-Point-clause-exact : goal.returns-in-Ok-Point-clause-exact
returns-in-Ok-Point-clause-exact c = λ alone size truth expression comps rows r h.
    let here = (goal.at.returns-in-Ok-Point-clause-exact c).In_ok-system in
    let t = c.in-Ok-Point.field-0-0.t in
    let w = c.in-Ok-Point.field-0-0.w in
    let point = rw c.in-Ok-Point.field-0-is at c.in-Ok-Point.ensures.decides in
    found t w (moved here (λ n lines. IsPoint n lines t w) point size truth expression comps rows r h)

pub returns-in-Err-Blown-clause-exact : goal.returns-in-Err-Blown-clause-exact
returns-in-Err-Blown-clause-exact c = λ alone size truth expression comps rows r h.
    let here = (goal.at.returns-in-Err-Blown-clause-exact c).In_ok-system in
    let step = c.in-Err-Blown.field-0-0 in
    let wide = c.in-Err-Blown.field-0-1 in
    let told = rw c.in-Err-Blown.field-0-is at (c.in-Err-Blown.ensures.exact alone) in
    blown step wide (moved here (λ n lines. solution n lines ≡ Blown step wide) told size truth expression comps rows r h)
