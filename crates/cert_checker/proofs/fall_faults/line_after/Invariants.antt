use Rattle.std.specs.Io.Iter.{u64_saturate}
use Rattle.std.proofs.Common.{◌≡◌, ◌+◌, ℕ, List, length}
use Rattle.linear_rows.specs.declared.multipliers.Multipliers.{Multipliers}
use Rattle.number_tests.specs.Failing.{before}
use Rattle.cert_checker.proofs.fall_faults.line_after.Given as goal

abbrev pub invariant-loop-own : goal.invariant-loop-own
invariant-loop-own l = (n : ℕ) → u64_saturate (l.line + n) ≡ u64_saturate (l.first + before (λ (ms : List Multipliers). length ms) l.proofs l.own-index + n)
