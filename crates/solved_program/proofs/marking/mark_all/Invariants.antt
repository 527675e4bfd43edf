use Rattle.solved_program.specs.Marks.{Always}
use Rattle.solved_program.proofs.MemberMarks.{AreMarkedUpTo}
use Rattle.solved_program.proofs.marking.mark_all.Given as goal

abbrev pub invariant-loop-member : goal.invariant-loop-member
invariant-loop-member l = AreMarkedUpTo Always l.member-items l.fn.stayed l.member-index l.stayed
