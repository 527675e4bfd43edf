use Rattle.ld_resolver.proofs.CountLaws.{some_number}
use Rattle.ld_resolver.proofs.laws.bounded_goals_have_finitely_many_nodes.Goals as goal

pub returns : goal.returns
returns c = record { finite = some_number }
