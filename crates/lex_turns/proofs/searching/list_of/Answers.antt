use Rattle.std.proofs.Common.{refl}
use Rattle.lex_turns.proofs.Courses.{both, list_at, not_empty}
use Rattle.lex_turns.proofs.searching.list_of.Goals as goal

pub returns-clause-ended : goal.returns-clause-ended
returns-clause-ended c = λ at is size truth expression comps rows r h.
    let course = c.args.course in
    let some = not_empty course.measures (λ e. both c.is_empty.result (c.is_empty.ensures.1 e) c.if-is_empty.false) in
    list_at size truth expression c.args.p.now comps rows r c.args.component.now h at course (record { measures = course.measures; drops = c.from_vec.result }) is c.requires.none some.first some.others some.is refl c.from_vec.ensures
