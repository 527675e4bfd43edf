use Rattle.std.proofs.Common.{map, subst}
use Rattle.number_turns.specs.Recalled.{spelled}
use Rattle.number_lists.specs.Coursing.{IsNext}
use Rattle.number_lists.proofs.searching.take_turns.Goals as goal

pub returns-in-Blown : goal.returns-in-Blown
returns-in-Blown c =
    let new = c.go_on.new.course in
    let next = subst (IsNext (map spelled c.args.candidates.now) c.args.transitions.now c.loop-course.course new) c.in-Blown.is c.in_ok-go_on.ensures.next in
    let course = c.in_ok-go_on.ensures.course in
    record { gone = new.gone.items; blown = next.0; chosen = next.1; turns = λ width has. (course.for width has).turns }
