use Rattle.prolog_grammar.proofs.DeepExact.{unexpected_run, unexpected_found}
use Rattle.prolog_grammar.proofs.depths.unexpected_within_depth.Goals as goal

pub returns-clause-found : goal.returns-clause-found
returns-clause-found c = unexpected_run

pub returns-clause-each : goal.returns-clause-each
returns-clause-each c = unexpected_found
