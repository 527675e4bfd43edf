use Rattle.std.specs.Io.Iter.{u64_saturate}
use Rattle.std.proofs.Common.{◌≡◌, ◌+◌, ◌<◌, ℕ, length, List, slice_get, Some}
use Rattle.cti_terms.specs.declared.clauses.Clause.{Clause}
use Rattle.cert_structure.specs.Numbered.{lines_from}
use Rattle.cert_structure.specs.Order.{by_line}
use Rattle.linear_rows.specs.declared.multipliers.Multipliers.{Multipliers}
use Rattle.number_tests.specs.Failing.{before}
use Rattle.number_tests.specs.Proved.{RowsAreKept}
use Rattle.number_tests.specs.Shape.{list_at}
use Rattle.cert_checker.specs.Finding.{ByFails, NoneFails}
use Rattle.cert_checker.proofs.size_faults.size_fault.Given as goal

abbrev pub invariant-loop-k : goal.invariant-loop-k
invariant-loop-k g l = record {
  kept : (k : ℕ) → k < l.k → (c : Clause) → slice_get l.p.clauses k ≡ Some c → RowsAreKept (g.N.Norm.expression l.norm) l.parts.rows c (list_at l.parts.row_proofs k);
  line : (n : ℕ) → u64_saturate (l.line + n) ≡ u64_saturate (l.first + before (λ (ms : List Multipliers). length ms) l.parts.row_proofs l.k + n);
  none : (k : ℕ) → k < l.k → (ms : List Multipliers) → slice_get l.parts.row_proofs k ≡ Some ms → NoneFails (ByFails (g.N.Norm.expression l.norm) l.p l.parts.rows) (lines_from 0 (by_line k) ms);
}
