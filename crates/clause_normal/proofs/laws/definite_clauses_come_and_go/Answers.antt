use Rattle.clause_normal.proofs.DefiniteLater.{definite_stay}
use Rattle.clause_normal.proofs.DefiniteLemmas.{definite_added, definite_taken}
use Rattle.clause_normal.proofs.laws.definite_clauses_come_and_go.Goals as goal

pub returns : goal.returns
returns c = record { added = definite_added; taken = definite_taken; later = λ names later cs ext. definite_stay names later ext cs }
