use Rattle.termination_model.proofs.Points.{points_fall}
use Rattle.termination_model.proofs.supports.points_give_mappings.Goals as goal

pub returns : goal.returns
returns c = points_fall
