use Rattle.termination_model.proofs.ColumnProved.{shown}
use Rattle.termination_model.proofs.column_descent.column_proofs_show.Goals as goal

pub returns : goal.returns
returns c = shown
