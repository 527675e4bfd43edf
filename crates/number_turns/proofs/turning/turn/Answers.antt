use Rattle.std.proofs.Common.{◌≡◌, ◌≤ℤ◌, ℤ, pos, List, map, take, drop, length, ap, sym, subst, ◌∙◌, arith}
use Rattle.std.specs.Prelude.{All}
use Rattle.std.proofs.lemmas.List.{length-map}
use Rattle.linear_rows.specs.Plain.{plain_rows}
use Rattle.linear_rows.specs.Rows.{IsPoint}
use Rattle.linear_rows.specs.Solving.{solution}
use Rattle.linear_rows.specs.Solving.Solution.{Found}
use Rattle.transitions.specs.Templates.{differences}
use Rattle.number_turns.specs.Recalled.{recalled_of, spelled}
use Rattle.number_turns.specs.Turning.{turn_rows, turn_unknowns}
use Rattle.number_turns.proofs.Turnings.{HasDifferences, at_point, found, point_here, point_natural, point_room, refuted, refuted_here, solution_here}
use Rattle.number_turns.proofs.turning.turn.Goals.{In-Ok-Point, In_ok-found-in-Ok-Point}
use Rattle.number_turns.proofs.turning.turn.Goals as goal

-- the point that solves the system is one of the template
point : (c : In-Ok-Point) → let fs = map spelled c.args.features.now in let τs = recalled_of c.args.transitions.now in
    IsPoint (turn_unknowns fs τs c.args.marks.now) (turn_rows fs τs c.args.marks.now) c.in-Ok-Point.point.t c.in-Ok-Point.point.w
point c =
    let system = c.in_ok-system.system in
    let solved : IsPoint system.width (plain_rows system.list) c.in-Ok-Point.point.t c.in-Ok-Point.point.w = rw c.in-Ok-Point.field-0-is at c.in-Ok-Point.ensures.decides in
    point_here (map spelled c.args.features.now) (recalled_of c.args.transitions.now) c.args.marks.now system.width (plain_rows system.list)
    c.in_ok-system.ensures.width c.in_ok-system.ensures.rows c.in-Ok-Point.point.t c.in-Ok-Point.point.w solved

pub found_at-requires-clause-naturals : goal.found_at-requires-clause-naturals
found_at-requires-clause-naturals c =
    let here = (goal.at.found_at-requires-clause-naturals c).In-Ok-Point in
    subst (λ (xs : List ℤ). All (λ x. pos 0 ≤ℤ x) xs) (sym c.as_slice.ensures)
    (point_natural (map spelled c.args.features.now) (recalled_of c.args.transitions.now) c.args.marks.now c.in-Ok-Point.point.t c.in-Ok-Point.point.w (point here))

pub found_at-requires-clause-room : goal.found_at-requires-clause-room
found_at-requires-clause-room c =
    let here = (goal.at.found_at-requires-clause-room c).In-Ok-Point in
    let features = c.args.features.now in
    omega (
      arith,
      ap length c.as_slice.ensures,
      length-map features spelled,
      point_room (map spelled features) (recalled_of c.args.transitions.now) c.args.marks.now c.in-Ok-Point.point.t c.in-Ok-Point.point.w (point here),
    )

-- the numbers and multipliers are those of the point
numbers_are : (c : In_ok-found-in-Ok-Point) → let fs = map spelled c.args.features.now in
    HasDifferences fs (recalled_of c.args.transitions.now) c.args.marks.now c.in-Ok-Point.point.w c.in_ok-found-in-Ok-Point.found
numbers_are c = λ vs e.
    let same = sym (length-map c.args.features.now spelled) in
    c.in_ok-found-in-Ok-Point.ensures.numbers vs (c.as_slice.ensures ∙ e) ∙ (λ i. differences (take (same i) vs) (take (same i) (drop (same i) vs)))

multipliers_are : (c : In_ok-found-in-Ok-Point) → let n = length (map spelled c.args.features.now) in c.in_ok-found-in-Ok-Point.found.multipliers ≡ drop n (drop n c.in-Ok-Point.point.w)
multipliers_are c =
    let same = sym (length-map c.args.features.now spelled) in
    c.in_ok-found-in-Ok-Point.ensures.multipliers ∙ (λ i. drop (same i) (drop (same i) (c.as_slice.ensures i)))

pub returns-in-Ok-Point-clause-turned : goal.returns-in-Ok-Point-clause-turned
returns-in-Ok-Point-clause-turned c =
    let here = goal.at.returns-in-Ok-Point-clause-turned c in
    found (map spelled c.args.features.now) (recalled_of c.args.transitions.now) c.args.marks.now c.in-Ok-Point.point.t c.in-Ok-Point.point.w c.in_ok-found-in-Ok-Point.found
    (point here.In-Ok-Point) (numbers_are here.In_ok-found-in-Ok-Point) (multipliers_are here.In_ok-found-in-Ok-Point) c.in_ok-found-in-Ok-Point.ensures.fit

pub returns-in-Ok-Point-clause-exact : goal.returns-in-Ok-Point-clause-exact
returns-in-Ok-Point-clause-exact c = λ alone.
    let here = goal.at.returns-in-Ok-Point-clause-exact c in
    let fs = map spelled c.args.features.now in
    let τs = recalled_of c.args.transitions.now in
    let marks = c.args.marks.now in
    let system = c.in_ok-system.system in
    let solved : solution system.width (plain_rows system.list) ≡ Found c.in-Ok-Point.point.t c.in-Ok-Point.point.w = rw c.in-Ok-Point.field-0-is at (c.in-Ok-Point.ensures.exact alone) in (
      c.in-Ok-Point.point.t,
      c.in-Ok-Point.point.w,
      solution_here fs τs marks system.width (plain_rows system.list) c.in_ok-system.ensures.width c.in_ok-system.ensures.rows ∙ solved,
      at_point fs τs marks c.in-Ok-Point.point.t c.in-Ok-Point.point.w c.in_ok-found-in-Ok-Point.found
          (point here.In-Ok-Point) (numbers_are here.In_ok-found-in-Ok-Point) (multipliers_are here.In_ok-found-in-Ok-Point),
    )

pub returns-in-Ok-Refuted-clause-turned : goal.returns-in-Ok-Refuted-clause-turned
returns-in-Ok-Refuted-clause-turned c =
    let fs = map spelled c.args.features.now in
    let τs = recalled_of c.args.transitions.now in
    let marks = c.args.marks.now in
    let system = c.in_ok-system.system in
    let told = rw c.in-Ok-Refuted.field-0-is at c.in-Ok-Refuted.ensures.decides in
    refuted fs τs marks c.in-Ok-Refuted.by.list (refuted_here fs τs marks system.width (plain_rows system.list) c.in_ok-system.ensures.width c.in_ok-system.ensures.rows c.in-Ok-Refuted.by.list told.1)
