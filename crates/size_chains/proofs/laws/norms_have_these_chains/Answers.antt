use Rattle.size_chains.proofs.NormChains.{norms_have_these_chains}
use Rattle.size_chains.proofs.laws.norms_have_these_chains.Goals as goal

pub returns : goal.returns
returns c = norms_have_these_chains
