use Rattle.prolog_grammar.proofs.Parts.{walks_placed}
use Rattle.prolog_grammar.proofs.verdicts.same_verdicts.Goals as goal

pub returns : goal.returns
returns c = λ infixes prefixes names limit us. walks_placed limit infixes prefixes names us
