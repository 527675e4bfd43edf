use Rattle.ld_resolver.proofs.FirstLaws.{first_are, first_ascend, others_later, one_more, no_more_than}
use Rattle.ld_resolver.proofs.laws.first_nodes_come_first.Goals as goal

pub returns-clause-each : goal.returns-clause-each
returns-clause-each c = first_are

pub returns-clause-order : goal.returns-clause-order
returns-clause-order c = first_ascend

pub returns-clause-others : goal.returns-clause-others
returns-clause-others c = others_later

pub returns-clause-more : goal.returns-clause-more
returns-clause-more c = one_more

pub returns-clause-enough : goal.returns-clause-enough
returns-clause-enough c = no_more_than
