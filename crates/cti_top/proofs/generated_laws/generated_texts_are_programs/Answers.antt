use Rattle.cti_top.proofs.GeneratedLemmas.{generated_known}
use Rattle.cti_top.proofs.generated_laws.generated_texts_are_programs.Goals as goal

pub returns : goal.returns
returns c = record { program = λ n some few. generated_known n few }
