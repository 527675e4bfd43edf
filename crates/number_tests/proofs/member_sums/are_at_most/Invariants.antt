use Rattle.std.proofs.Common.{◌<◌, ◌≤ℤ◌, ℕ}
use Rattle.exact128.specs.Sums.{entry}
use Rattle.number_tests.proofs.member_sums.are_at_most.Given as goal

abbrev pub invariant-loop-i : goal.invariant-loop-i
invariant-loop-i l = (k : ℕ) → k < l.i → entry l.xs k ≤ℤ entry l.ys k
