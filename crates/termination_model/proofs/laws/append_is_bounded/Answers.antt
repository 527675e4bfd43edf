use Rattle.termination_model.proofs.Append.{append_ends}
use Rattle.termination_model.proofs.laws.append_is_bounded.Goals as goal

pub returns : goal.returns
returns c = append_ends
