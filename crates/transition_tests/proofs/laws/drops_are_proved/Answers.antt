use Rattle.transition_tests.proofs.ProvedTargets.{drops_proved}
use Rattle.transition_tests.proofs.laws.drops_are_proved.Goals as goal

pub returns : goal.returns
returns c = drops_proved
