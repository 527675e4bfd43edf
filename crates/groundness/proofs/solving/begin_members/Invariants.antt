use Rattle.groundness.proofs.StartLaws.{AreBegunTo}
use Rattle.groundness.proofs.solving.begin_members.Given as goal

abbrev pub invariant-loop-member : goal.invariant-loop-member
invariant-loop-member l = AreBegunTo l.p.arithmetic l.none l.both l.member-items l.fn.sets l.member-index l.sets
