use Rattle.std.proofs.Common.{◌≡◌, ℕ, ◌<◌, ◌+◌, true}
use Rattle.exact128.specs.Sums.{entry}
use Rattle.linear_rows.specs.Elimination.{is_zero}
use Rattle.sparse_rows.proofs.cleaning.is_trivial.Given as goal

abbrev pub invariant-loop-j : goal.invariant-loop-j
invariant-loop-j l = (j : ℕ) → j < l.j → is_zero (entry l.row (j + 1)) ≡ true
