use Rattle.transitions.proofs.Examples.{count_and_down}
use Rattle.transitions.proofs.laws.a_count_descends.Goals as goal

pub returns : goal.returns
returns c = count_and_down
