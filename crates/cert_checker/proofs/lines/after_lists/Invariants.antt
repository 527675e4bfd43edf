use Rattle.std.specs.Io.Iter.{u64_saturate}
use Rattle.std.proofs.Common.{◌≡◌, ◌+◌, length}
use Rattle.number_tests.specs.Failing.{before}
use Rattle.cert_checker.proofs.lines.after_lists.Given as goal

abbrev pub invariant-loop-list : goal.invariant-loop-list
invariant-loop-list g l = l.line ≡ u64_saturate (l.first + before (λ xs. length xs) l.lists l.list-index)
