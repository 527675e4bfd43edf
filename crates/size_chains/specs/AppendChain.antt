-- Private.
-- An example: the chain of append, by term size.
use Rattle.term_size.specs.Occurrences.{size_row}
use Rattle.termination_model.specs.examples.Append.{append}
use Rattle.termination_model.specs.examples.AppendChain.{alone, append_rows, append_steps, fit}
use Rattle.size_chains.specs.Chains.{IsLegalChain}
use Rattle.size_chains.specs.Norms.{norm_systems}

abbrev pub AppendHasThisChain : Type 0
AppendHasThisChain = IsLegalChain fit (norm_systems append size_row) append alone append_steps append_rows
