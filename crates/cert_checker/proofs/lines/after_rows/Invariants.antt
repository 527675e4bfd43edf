use Rattle.std.specs.Io.Iter.{u64_saturate}
use Rattle.std.proofs.Common.{◌≡◌, ◌+◌, length}
use Rattle.linear_rows.specs.declared.row.Rows.{Rows}
use Rattle.number_tests.specs.Failing.{before}
use Rattle.cert_checker.proofs.lines.after_rows.Given as goal

abbrev pub invariant-loop-q : goal.invariant-loop-q
invariant-loop-q l = l.line ≡ u64_saturate (l.first + before (λ (r : Rows). length r.list) l.rows l.q)
