use Rattle.transition_tests.proofs.SticksLaws.{sticks}
use Rattle.transition_tests.proofs.laws.groups_stick.Goals as goal

pub returns : goal.returns
returns c = sticks
