use Rattle.number_turns.specs.Recalled.{recalled_of, spelled}
use Rattle.transition_tests.specs.Testing.{IsBalanced}
use Rattle.transition_tests.proofs.Places.{UpTo}
use Rattle.transition_tests.proofs.sums.are_balanced.Given as goal

abbrev pub invariant-loop-i : goal.invariant-loop-i
invariant-loop-i l = UpTo (IsBalanced (recalled_of l.transitions) (spelled l.feature)) l.groups l.i
