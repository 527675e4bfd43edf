use Rattle.termination_model.proofs.Loop.{loop_goes_on}
use Rattle.termination_model.proofs.laws.a_self_call_is_unbounded.Goals as goal

pub returns : goal.returns
returns c = loop_goes_on
