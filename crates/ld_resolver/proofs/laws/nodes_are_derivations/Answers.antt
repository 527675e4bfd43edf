use Rattle.ld_resolver.proofs.OrderLaws.{each_node, in_order}
use Rattle.ld_resolver.proofs.laws.nodes_are_derivations.Goals as goal

pub returns-clause-each : goal.returns-clause-each
returns-clause-each c = each_node

pub returns-clause-order : goal.returns-clause-order
returns-clause-order c = in_order
