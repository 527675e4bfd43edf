use Rattle.std.proofs.Common.{◌≡◌, ℕ, ◌<◌, true, get_or, []}
use Rattle.sparse_rows.specs.Small.{small}
use Rattle.linear_rows.specs.Blown.{all_of}
use Rattle.sparse_rows.proofs.lines.Lines.are_small.Given as goal

abbrev pub invariant-loop-i : goal.invariant-loop-i
invariant-loop-i l = (j : ℕ) → j < l.i → all_of small (get_or l.self j []) ≡ true
