use Rattle.termination_model.proofs.Expressions.{three_are_columns}
use Rattle.termination_model.proofs.Measures.{measures_of_instance, rigid_measures, has_value, stated_hold}
use Rattle.termination_model.proofs.column_descent.three_measures.Goals as goal

pub returns-clause-instances : goal.returns-clause-instances
returns-clause-instances c = measures_of_instance

pub returns-clause-rigid : goal.returns-clause-rigid
returns-clause-rigid c = rigid_measures

pub returns-clause-values : goal.returns-clause-values
returns-clause-values c = has_value

pub returns-clause-stated : goal.returns-clause-stated
returns-clause-stated c = stated_hold

pub returns-clause-columns : goal.returns-clause-columns
returns-clause-columns c = three_are_columns
