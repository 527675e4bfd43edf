use Rattle.std.proofs.Common.{◌≡◌, ℕ, ◌<◌, pos}
use Rattle.exact128.specs.Sums.{entry}
use Rattle.size_chains.proofs.stepping.are_zeros.Given as goal

abbrev pub invariant-loop-k : goal.invariant-loop-k
invariant-loop-k l = (j : ℕ) → j < l.k → entry l.numbers j ≡ pos 0
