use Rattle.carried_preconditions.proofs.Greatest.{solved_carries_over}
use Rattle.carried_preconditions.proofs.laws.solved_carries_over.Goals as goal

pub returns : goal.returns
returns c = solved_carries_over
