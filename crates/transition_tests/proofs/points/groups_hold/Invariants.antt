use Rattle.number_turns.specs.Recalled.{recalled_of}
use Rattle.transition_tests.specs.Testing.{GroupHolds}
use Rattle.transition_tests.proofs.Places.{UpTo}
use Rattle.transition_tests.proofs.points.groups_hold.Given as goal

abbrev pub invariant-loop-i : goal.invariant-loop-i
invariant-loop-i l = UpTo (GroupHolds (recalled_of l.transitions)) l.groups l.i
