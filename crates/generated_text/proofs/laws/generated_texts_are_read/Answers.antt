use Rattle.generated_text.proofs.Predicates.{generated_read}
use Rattle.generated_text.proofs.laws.generated_texts_are_read.Goals as goal

pub returns : goal.returns
returns c = generated_read
