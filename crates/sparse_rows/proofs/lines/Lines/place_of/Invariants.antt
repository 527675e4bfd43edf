use Rattle.std.proofs.Common.{◌≡◌, ℕ, ◌<◌, false, [], get_or}
use Rattle.linear_rows.specs.Cleaning.{agree}
use Rattle.sparse_rows.proofs.lines.Lines.place_of.Given as goal

abbrev pub invariant-loop-i : goal.invariant-loop-i
invariant-loop-i l = (j : ℕ) → j < l.i → agree l.last (get_or l.self j []) l.row ≡ false
