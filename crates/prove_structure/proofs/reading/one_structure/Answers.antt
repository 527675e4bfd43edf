use Rattle.prove_structure.proofs.ComponentLemmas.{structure}
use Rattle.prove_structure.proofs.reading.one_structure.Goals as goal

pub returns : goal.returns
returns c p names one other parts facts h k is = structure p one other h k names parts facts is
