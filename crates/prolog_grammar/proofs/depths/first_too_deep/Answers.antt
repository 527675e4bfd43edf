use Rattle.prolog_grammar.proofs.DeepRuns.{deep_run}
use Rattle.prolog_grammar.proofs.DeepExact.{deep_found}
use Rattle.prolog_grammar.proofs.depths.first_too_deep.Goals as goal

pub returns-clause-found : goal.returns-clause-found
returns-clause-found c = deep_run

pub returns-clause-each : goal.returns-clause-each
returns-clause-each c = deep_found
