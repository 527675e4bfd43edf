use Rattle.prolog_grammar.proofs.OneVerdict as verdicts
use Rattle.prolog_grammar.proofs.verdicts.one_verdict.Goals as goal

pub returns-clause-found : goal.returns-clause-found
returns-clause-found c = λ infixes prefixes names limit us. verdicts.verdict_found limit infixes prefixes names us

pub returns-clause-one : goal.returns-clause-one
returns-clause-one c = λ infixes prefixes names limit us v h. verdicts.one_verdict limit infixes prefixes names us v h
