use Rattle.termination_model.proofs.ColumnQuery.{rows_end, modes_end}
use Rattle.termination_model.proofs.column_descent.a_query_over_columns_is_bounded.Goals as goal

pub returns-clause-rows : goal.returns-clause-rows
returns-clause-rows c = rows_end

pub returns-clause-modes : goal.returns-clause-modes
returns-clause-modes c = modes_end
