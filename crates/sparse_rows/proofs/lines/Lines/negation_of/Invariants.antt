use Rattle.std.proofs.Common.{◌≡◌, ℕ, ◌<◌, false, [], get_or}
use Rattle.linear_rows.specs.Equation.{negates}
use Rattle.sparse_rows.proofs.lines.Lines.negation_of.Given as goal

abbrev pub invariant-loop-j : goal.invariant-loop-j
invariant-loop-j l = (j : ℕ) → j < l.j → negates l.many (get_or l.self l.i []) (get_or l.self j []) ≡ false
