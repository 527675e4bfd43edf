use Rattle.solved_program.proofs.SolvedLaws.{solved_sizes_are_proved}
use Rattle.solved_program.proofs.laws.solved_sizes_are_proved.Goals as goal

pub returns : goal.returns
returns c = solved_sizes_are_proved
