use Rattle.termination_model.proofs.ColumnWorldQuery.{rows_end_in, modes_end_in}
use Rattle.termination_model.proofs.worlds.a_query_over_columns_is_bounded_in_worlds.Goals as goal

pub returns-clause-rows : goal.returns-clause-rows
returns-clause-rows c = rows_end_in

pub returns-clause-modes : goal.returns-clause-modes
returns-clause-modes c = modes_end_in
