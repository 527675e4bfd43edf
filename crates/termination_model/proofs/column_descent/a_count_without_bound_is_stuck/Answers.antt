use Rattle.termination_model.proofs.Down.{no_list}
use Rattle.termination_model.proofs.column_descent.a_count_without_bound_is_stuck.Goals as goal

pub returns : goal.returns
returns c = no_list
