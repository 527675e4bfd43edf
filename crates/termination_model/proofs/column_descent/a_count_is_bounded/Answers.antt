use Rattle.termination_model.proofs.Count.{count_ends}
use Rattle.termination_model.proofs.column_descent.a_count_is_bounded.Goals as goal

pub returns : goal.returns
returns c = count_ends
