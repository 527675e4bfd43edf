use Rattle.certificate.proofs.NameLemmas.{name_kept, name_refused}
use Rattle.certificate.proofs.names.name.Goals as goal

pub returns-in-Ok-clause-value : goal.returns-in-Ok-clause-value
returns-in-Ok-clause-value c = name_kept _ _ _ c.in_ok-name.ensures (rw c.as_slice.ensures at c.in-Ok.ensures.cases.1)

pub returns-clause-value : goal.returns-clause-value
returns-clause-value c = name_refused _ _ _ c.in_ok-name.ensures (rw c.as_slice.ensures at c.in-Err.ensures.cases.0)
