use Rattle.termination_model.proofs.ColumnStronger.{stronger_show}
use Rattle.termination_model.proofs.worlds.stronger_column_facts_serve.Goals as goal

pub returns : goal.returns
returns c = stronger_show
