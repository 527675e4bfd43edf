use Rattle.termination_model.proofs.Having.{systems_give_mappings}
use Rattle.termination_model.proofs.supports.systems_give_mappings.Goals as goal

pub returns : goal.returns
returns c = systems_give_mappings
