use Rattle.std.proofs.Common.{ℕ, ℤ, pos, ◌<◌, get_or}
use Rattle.std.specs.Prelude.{◌≤ℤ◌}
use Rattle.linear_rows.proofs.numbers.are_natural.Given as goal

abbrev pub invariant-loop-number : goal.invariant-loop-number
invariant-loop-number l = (k : ℕ) (d : ℤ) → k < l.number-index → pos 0 ≤ℤ get_or l.numbers k d
