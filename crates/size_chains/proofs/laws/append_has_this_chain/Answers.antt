use Rattle.term_size.specs.Occurrences.{size_row}
use Rattle.termination_model.specs.examples.Append.{append}
use Rattle.termination_model.specs.examples.AppendChain.{alone, append_rows, append_steps, fit}
use Rattle.termination_model.proofs.AppendChain as example
use Rattle.size_chains.proofs.NormChains.{norms_have_these_chains}
use Rattle.size_chains.proofs.laws.append_has_this_chain.Goals as goal

pub returns : goal.returns
returns c = (norms_have_these_chains fit size_row append alone append_steps append_rows).0 example.append_has_this_chain
