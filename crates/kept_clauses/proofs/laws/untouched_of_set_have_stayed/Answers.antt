use Rattle.kept_clauses.proofs.UntouchedValues.{untouched_of_set_have_stayed}
use Rattle.kept_clauses.proofs.laws.untouched_of_set_have_stayed.Goals as goal

pub returns : goal.returns
returns g c = untouched_of_set_have_stayed _
