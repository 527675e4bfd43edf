use Rattle.std.proofs.Common.{subst}
use Rattle.lex_turns.specs.Coursing.{IsNext, remaining_of}
use Rattle.lex_turns.proofs.Courses.{blown_given_up}
use Rattle.lex_turns.proofs.searching.take_turns.Goals as goal

pub returns-in-Blown-clause-ended : goal.returns-in-Blown-clause-ended
returns-in-Blown-clause-ended c = λ size truth expression comps rows r h.
    let x = c.args.component.now in
    let p = c.args.p.now in
    let at = c.args.at.now in
    let new = c.go_on.new.course in
    let next = subst (IsNext p x at c.loop-course.course new) c.in-Blown.is c.in_ok-go_on.ensures.next in
    let course = c.in_ok-go_on.ensures.course in
    blown_given_up size truth expression p comps rows r x h at new.measures (remaining_of x new) (course.turns size truth expression comps rows r h) next.0 (next.1 size truth expression comps rows r h)
