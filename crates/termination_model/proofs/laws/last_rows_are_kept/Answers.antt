use Rattle.termination_model.proofs.ChainKeeping.{chains_keep, chains_state}
use Rattle.termination_model.proofs.laws.last_rows_are_kept.Goals as goal

pub returns-clause-kept : goal.returns-clause-kept
returns-clause-kept c = chains_keep

pub returns-clause-stated : goal.returns-clause-stated
returns-clause-stated c = chains_state
