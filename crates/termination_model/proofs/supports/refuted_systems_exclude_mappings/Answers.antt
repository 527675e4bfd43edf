use Rattle.termination_model.proofs.Excludes.{excludes_at, all_refute}
use Rattle.termination_model.proofs.Refuting.{multipliers_refute}
use Rattle.termination_model.proofs.supports.refuted_systems_exclude_mappings.Goals as goal

pub returns-clause-refute : goal.returns-clause-refute
returns-clause-refute c = multipliers_refute

pub returns-clause-exclude : goal.returns-clause-exclude
returns-clause-exclude c = excludes_at

pub returns-clause-all : goal.returns-clause-all
returns-clause-all c = all_refute
