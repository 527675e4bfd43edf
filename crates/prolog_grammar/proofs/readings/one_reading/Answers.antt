use Rattle.prolog_grammar.proofs.Exact as exact
use Rattle.prolog_grammar.proofs.readings.one_reading.Goals as goal

pub returns : goal.returns
returns c = λ _ rules us rest rest' t t' p p' h h'. exact.one_reading rules us rest rest' t t' p p' h h'
