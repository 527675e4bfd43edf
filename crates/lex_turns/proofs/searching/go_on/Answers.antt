use Rattle.std.proofs.Common.{◌≡◌, ◌≤◌, ◌<◌, Bool, List, length, ap, sym, subst, ◌∙◌, arith}
use Rattle.std.specs.Borrow.{Bor}
use Rattle.std.specs.Prelude.{vec_len}
use Rattle.std.proofs.lemmas.List.{length-map}
use Rattle.level_systems.specs.Turned.{all_rows, held_of}
use Rattle.level_systems.specs.declared.own_call.OwnCall.{OwnCall}
use Rattle.lex_turns.specs.Coursing.{CannotTurn, is_none}
use Rattle.lex_turns.specs.Tracking.{kept, staying}
use Rattle.lex_turns.specs.Turning.{IsMade, IsTurnOf}
use Rattle.lex_turns.proofs.Courses.{fewer_stay, more_course, none_is, not_zero}
use Rattle.lex_turns.proofs.TrackedCalls.{kept_among, kept_count}
use Rattle.lex_turns.proofs.TurnMaking.{all_among, drops_long, ready_among}
use Rattle.lex_turns.proofs.searching.go_on.Goals.{After-as_slice-3, In-Made}
use Rattle.lex_turns.proofs.searching.go_on.Goals as goal

-- the calls that remain
rest_is : (c : After-as_slice-3) → held_of c.as_slice-3.result.now ≡ kept c.args.component.now.calls.items c.args.course.now.gone.items
rest_is c = ap held_of c.as_slice-3.ensures.value ∙ c.in_ok-rest.ensures ∙ (λ i. kept (c.as_slice.ensures.value i) (c.as_slice-2.ensures.value i))

-- the turn that is made for them
module _ (c : In-Made) (same : held_of c.as_slice-3.result.now ≡ kept c.args.component.now.calls.items c.args.course.now.gone.items) where
  made : IsMade c.args.component.now (kept c.args.component.now.calls.items c.args.course.now.gone.items) c.is_empty-2.result c.in-Made.made
  made = rw same at (rw c.in-Made.is at c.in_ok-made.ensures.made)

  falls_long : length c.in-Made.made.falls ≡ staying c.args.course.now.gone.items
  falls_long =
      let calls = c.args.component.now.calls.items in
      let gone = c.args.course.now.gone.items in
      drops_long c.in-Made.made.measures (kept calls gone) c.in-Made.made.values c.in-Made.made.falls made.drops ∙ kept_count calls gone c.requires.course.gone

pub long_turn-requires-clause-among : goal.long_turn-requires-clause-among
long_turn-requires-clause-among c =
    let calls = c.args.component.now.calls.items in
    rw (rest_is (goal.at.long_turn-requires-clause-among c).After-as_slice-3) (kept_among calls calls c.args.course.now.gone.items (λ y i. i))

pub advance-requires-clause-falls : goal.advance-requires-clause-falls
advance-requires-clause-falls c =
    let here = goal.at.advance-requires-clause-falls c in
    sym (falls_long here.In-Made (rest_is here.After-as_slice-3))

pub advance-requires-clause-room : goal.advance-requires-clause-room
advance-requires-clause-room c =
    let here = goal.at.advance-requires-clause-room c in
    let turn = made here.In-Made (rest_is here.After-as_slice-3) in
    let long : length c.in-Made.made.values ≡ all_rows (kept c.args.component.now.calls.items c.args.course.now.gone.items) = turn.long in
    omega (arith, long)

pub returns-in-Made-clause-course : goal.returns-in-Made-clause-course
returns-in-Made-clause-course c =
    let here = goal.at.returns-in-Made-clause-course c in
    let x = c.args.component.now in
    let p = c.args.p.now in
    let same = rest_is here.After-as_slice-3 in
    more_course p x c.args.at.now c.args.course.now c.advance.new.course c.in-Made.made c.is_empty-2.result (ready_among p x c.requires.sound x.calls.items (all_among x.calls.items)) c.requires.course c.in_ok-advance-in-Made.ensures
    (λ e. c.is_empty-2.ensures.1 e) (made here.In-Made same)
    (λ size truth expression comps rows r h.
    let told = rw c.in-Made.is at (c.in_ok-made.ensures.step size truth expression comps rows r h) in
    subst (λ (os : List OwnCall). IsTurnOf expression p comps rows r x c.args.at.now os c.in-Made.made) same told.1)

pub returns-in-Made-clause-next : goal.returns-in-Made-clause-next
returns-in-Made-clause-next c =
    let here = goal.at.returns-in-Made-clause-next c in
    let gone = c.args.course.now.gone.items in
    let same = rest_is here.After-as_slice-3 in
    let turn = made here.In-Made same in
    subst (λ (gs : List Bool). staying gs < staying gone) (sym c.in_ok-advance-in-Made.ensures.gone) (fewer_stay gone c.in-Made.made.falls (falls_long here.In-Made same) turn.some)

pub returns-clause-next : goal.returns-clause-next
returns-clause-next c =
    let at = c.args.at.now in
    let x = c.args.component.now in
    let slice = c.as_slice-3.result.now in
    let same = rest_is (goal.at.returns-clause-next c).After-as_slice-3 in
    let long : length slice ≡ vec_len c.in_ok-rest.rest = c.as_slice-3.ensures.len in
    let some : 1 ≤ vec_len c.in_ok-rest.rest = not_zero (vec_len c.in_ok-rest.rest) c.is_empty.result c.is_empty.ensures c.if-is_empty.false in
    let many : length (kept x.calls.items c.args.course.now.gone.items) ≡ length slice = ap length (sym same) ∙ length-map slice (λ (y : Bor OwnCall). y.now) in
    let none : c.is_empty-2.result ≡ is_none c.args.course.now.measures = none_is c.args.course.now.measures c.is_empty-2.result (λ e. c.is_empty-2.ensures.0 e) (λ e. c.is_empty-2.ensures.1 e) in (
      omega (arith, long, some, many),
      λ size truth expression comps rows r h.
          let told = rw c.in-Blown.is at (c.in_ok-made.ensures.step size truth expression comps rows r h) in
          subst (λ (os : List OwnCall). CannotTurn expression c.args.p.now comps rows r x at (is_none c.args.course.now.measures) os) same
          (subst (λ (f : Bool). CannotTurn expression c.args.p.now comps rows r x at f (held_of slice)) none told),
    )
