use Rattle.lex_turns.specs.Coursing.{IsCourse}
use Rattle.lex_turns.specs.Tracking.{staying}
use Rattle.lex_turns.proofs.searching.take_turns.Given as goal

abbrev pub invariant-loop-course : goal.invariant-loop-course
invariant-loop-course l = IsCourse l.p l.component l.at l.course

abbrev pub decreases-loop-course : goal.decreases-loop-course
decreases-loop-course l = staying l.course.gone.items
