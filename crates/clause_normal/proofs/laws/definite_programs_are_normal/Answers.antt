use Rattle.clause_normal.proofs.DefiniteLemmas.{definite_normal}
use Rattle.clause_normal.proofs.laws.definite_programs_are_normal.Goals as goal

pub returns : goal.returns
returns c = definite_normal
