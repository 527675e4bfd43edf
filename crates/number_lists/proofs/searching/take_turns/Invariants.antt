use Rattle.std.proofs.Common.{map}
use Rattle.number_turns.specs.Recalled.{spelled}
use Rattle.number_lists.specs.Coursing.{IsCourse}
use Rattle.number_lists.specs.Tracking.{staying}
use Rattle.number_lists.proofs.searching.take_turns.Given as goal

abbrev pub invariant-loop-course : goal.invariant-loop-course
invariant-loop-course l = IsCourse (map spelled l.candidates) l.transitions l.course

abbrev pub decreases-loop-course : goal.decreases-loop-course
decreases-loop-course l = staying l.course.gone.items
