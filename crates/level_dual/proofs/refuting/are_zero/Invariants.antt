use Rattle.std.proofs.Common.{◌≡◌, ℕ, ℤ, pos, ◌<◌, get_or}
use Rattle.level_dual.proofs.refuting.are_zero.Given as goal

abbrev pub invariant-loop-number : goal.invariant-loop-number
invariant-loop-number l = (k : ℕ) (d : ℤ) → k < l.number-index → get_or l.numbers k d ≡ pos 0
