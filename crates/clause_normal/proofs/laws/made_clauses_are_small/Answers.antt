use Rattle.clause_normal.proofs.LimitLemmas.{made_rules_small}
use Rattle.clause_normal.proofs.laws.made_clauses_are_small.Goals as goal

pub returns : goal.returns
returns c = made_rules_small
