use Rattle.std.proofs.Common.{◌≡◌, ℕ, ◌<◌, true, get_or, []}
use Rattle.exact128.specs.Fits.{fits}
use Rattle.linear_rows.specs.Blown.{all_of}
use Rattle.sparse_rows.proofs.lines.Lines.fit.Given as goal

abbrev pub invariant-loop-i : goal.invariant-loop-i
invariant-loop-i l = (j : ℕ) → j < l.i → all_of fits (get_or l.self j []) ≡ true
