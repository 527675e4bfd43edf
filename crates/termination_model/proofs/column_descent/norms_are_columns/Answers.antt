use Rattle.termination_model.proofs.NormColumns.{are_columns}
use Rattle.termination_model.proofs.column_descent.norms_are_columns.Goals as goal

pub returns : goal.returns
returns c = are_columns
