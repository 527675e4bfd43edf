use Rattle.termination_model.proofs.ColumnStuck.{none_descends}
use Rattle.termination_model.proofs.column_descent.stuck_sets_over_columns_exclude_lists.Goals as goal

pub returns : goal.returns
returns c = none_descends
