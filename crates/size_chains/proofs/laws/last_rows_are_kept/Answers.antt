use Rattle.size_chains.proofs.Keeping.{last_rows_are_kept, last_rows_are_stated}
use Rattle.size_chains.proofs.laws.last_rows_are_kept.Goals as goal

pub returns-clause-kept : goal.returns-clause-kept
returns-clause-kept c = last_rows_are_kept

pub returns-clause-stated : goal.returns-clause-stated
returns-clause-stated c = last_rows_are_stated
