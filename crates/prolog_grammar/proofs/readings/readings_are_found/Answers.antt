use Rattle.prolog_grammar.proofs.Complete.{complete}
use Rattle.prolog_grammar.proofs.Sound.{sound}
use Rattle.prolog_grammar.proofs.readings.readings_are_found.Goals as goal

pub returns-clause-each : goal.returns-clause-each
returns-clause-each c = λ _ rules us rest t p h. complete h

pub returns-clause-only : goal.returns-clause-only
returns-clause-only c = λ _ rules us rest t h. sound rules us rest t h
