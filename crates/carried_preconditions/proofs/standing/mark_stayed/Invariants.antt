use Rattle.solved_program.proofs.MemberMarks.{AreMarkedUpTo}
use Rattle.carried_preconditions.specs.Resolving.{HasStayed}
use Rattle.carried_preconditions.proofs.standing.mark_stayed.Given as goal

abbrev pub invariant-loop-member : goal.invariant-loop-member
invariant-loop-member g l = AreMarkedUpTo (HasStayed l.sources l.table l.allowed) l.member-items l.fn.stayed l.member-index l.stayed
