use Rattle.std.specs.Io.Iter.{u64_saturate}
use Rattle.std.proofs.Common.{◌≡◌, ◌+◌}
use Rattle.number_tests.specs.Failing.{before}
use Rattle.cert_checker.specs.Sections.{count_in}
use Rattle.cert_checker.proofs.lines.after_all.Given as goal

abbrev pub invariant-loop-list : goal.invariant-loop-list
invariant-loop-list g l = l.line ≡ u64_saturate (l.first + before count_in l.lists l.list-index)
