use Rattle.clause_normal.proofs.DefinitePrograms.{operations_added, operations_kept, program_stays}
use Rattle.clause_normal.proofs.laws.definite_programs_stay.Goals as goal

pub returns : goal.returns
returns c = record { program = λ names later cs ext. program_stays names later ext cs; named = operations_added; operations = operations_kept }
