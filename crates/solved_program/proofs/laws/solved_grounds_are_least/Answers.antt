use Rattle.solved_program.proofs.GroundRows.{solved_grounds_are_least}
use Rattle.solved_program.proofs.laws.solved_grounds_are_least.Goals as goal

pub returns : goal.returns
returns c = solved_grounds_are_least
