use Rattle.termination_model.proofs.Query.{rows_end, modes_end}
use Rattle.termination_model.proofs.descent.a_query_is_bounded.Goals as goal

pub returns-clause-rows : goal.returns-clause-rows
returns-clause-rows c = rows_end

pub returns-clause-modes : goal.returns-clause-modes
returns-clause-modes c = modes_end
