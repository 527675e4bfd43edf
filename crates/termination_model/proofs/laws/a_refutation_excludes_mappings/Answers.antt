use Rattle.termination_model.proofs.Refuted.{none_decreases}
use Rattle.termination_model.proofs.laws.a_refutation_excludes_mappings.Goals as goal

pub returns : goal.returns
returns c = none_decreases
