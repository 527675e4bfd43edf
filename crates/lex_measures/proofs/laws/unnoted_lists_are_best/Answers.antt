use Rattle.lex_measures.proofs.BestLists.{unnoted_lists_are_best}
use Rattle.lex_measures.proofs.laws.unnoted_lists_are_best.Goals as goal

pub returns : goal.returns
returns c = unnoted_lists_are_best
