use Rattle.prolog_grammar.proofs.First as first
use Rattle.prolog_grammar.proofs.Exact.{refuses}
use Rattle.prolog_grammar.proofs.faults.first_unexpected.Goals as goal

pub returns-clause-found : goal.returns-clause-found
returns-clause-found c = λ _ rules us rest h. first.unexpected rules us rest h

pub returns-clause-each : goal.returns-clause-each
returns-clause-each c = λ _ rules us rest h. refuses rules us rest h
