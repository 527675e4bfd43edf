use Rattle.termination_model.proofs.AppendChain.{append_has_this_chain}
use Rattle.termination_model.proofs.laws.append_has_this_chain.Goals as goal

pub returns : goal.returns
returns c = append_has_this_chain
