use Rattle.number_turns.specs.Recalled.{recalled_of, spelled}
use Rattle.transition_tests.specs.Testing.{atoms}
use Rattle.transition_tests.proofs.Totals.{IsTotalTo}
use Rattle.transition_tests.proofs.sums.total.Given as goal

abbrev pub invariant-loop-x : goal.invariant-loop-x
invariant-loop-x l = IsTotalTo (atoms l.head) (spelled l.feature) (recalled_of l.transitions) l.points l.x-index l.sum
