use Rattle.column_systems.proofs.Proved.{clauses_are_proved, programs_are_proved}
use Rattle.column_systems.proofs.laws.sizes_are_proved.Goals as goal

pub returns-clause-clause : goal.returns-clause-clause
returns-clause-clause c = clauses_are_proved

pub returns-clause-program : goal.returns-clause-program
returns-clause-program c = programs_are_proved
