use Rattle.std.specs.Io.Iter.{u64_saturate}
use Rattle.std.proofs.Common.{◌≡◌, ◌+◌, ℕ}
use Rattle.number_tests.specs.Failing.{before, points_of}
use Rattle.cert_checker.proofs.refutation_faults.line_after.Given as goal

abbrev pub invariant-loop-x : goal.invariant-loop-x
invariant-loop-x l = (n : ℕ) → u64_saturate (l.line + n) ≡ u64_saturate (l.first + before points_of l.points l.x-index + n)
