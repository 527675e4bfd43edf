use Rattle.termination_model.proofs.Proved.{shown}
use Rattle.termination_model.proofs.descent.proofs_show.Goals as goal

pub returns : goal.returns
returns c = shown
