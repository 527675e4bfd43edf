use Rattle.std.proofs.Common.{◌≡◌, length}
use Rattle.lex_turns.proofs.whole.least_one.Given as goal

abbrev pub invariant-loop-column : goal.invariant-loop-column
invariant-loop-column l = length l.coeffs.items ≡ l.column
