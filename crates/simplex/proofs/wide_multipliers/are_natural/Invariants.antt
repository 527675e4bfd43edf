use Rattle.std.proofs.Common.{ℕ, pos, ◌<◌, get_or}
use Rattle.std.specs.Prelude.{◌≤ℤ◌}
use Rattle.exact384.specs.declared.integer.Integer.{Integer}
use Rattle.exact384.specs.Value.{value_of}
use Rattle.simplex.proofs.wide_multipliers.are_natural.Given as goal

abbrev pub invariant-loop-number : goal.invariant-loop-number
invariant-loop-number l = (k : ℕ) (d : Integer) → k < l.number-index → pos 0 ≤ℤ value_of (get_or l.list k d)
