use Rattle.ld_resolver.proofs.CountLaws.{counted, enough, all_met, too_few}
use Rattle.ld_resolver.proofs.laws.a_budget_of_all_nodes_finishes.Goals as goal

pub returns-clause-finished : goal.returns-clause-finished
returns-clause-finished c = enough

pub returns-clause-all : goal.returns-clause-all
returns-clause-all c = all_met

pub returns-clause-stopped : goal.returns-clause-stopped
returns-clause-stopped c = too_few

pub returns-clause-counted : goal.returns-clause-counted
returns-clause-counted c = counted
