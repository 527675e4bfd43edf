use Rattle.std.proofs.Common.{◌≡◌, take}
use Rattle.lex_turns.proofs.copies.copied_measures.Given as goal

abbrev pub invariant-loop-measure : goal.invariant-loop-measure
invariant-loop-measure l = l.copies ≡ take l.measure-index l.measures
