use Rattle.std.specs.Io.Iter.{u64_saturate}
use Rattle.std.proofs.Common.{◌≡◌, ◌≢◌, ◌+◌, ◌<◌, ℕ, List, length, slice_get, Some}
use Rattle.std.specs.List.{AllPairs}
use Rattle.cti_terms.specs.Arithmetic.{kind_of}
use Rattle.cert_structure.specs.Numbered.{lines_from}
use Rattle.cert_structure.specs.Order.{pred_text, size_line}
use Rattle.cert_structure.specs.Structure.{AreNamed}
use Rattle.linear_rows.specs.declared.row.Rows.{Rows}
use Rattle.number_tests.specs.Failing.{before}
use Rattle.cert_checker.specs.Finding.{NoneFails, SizesFail}
use Rattle.cert_checker.proofs.StatedLaws.{AreStatedAs}
use Rattle.cert_checker.proofs.stated_faults.stated_fault.Given as goal

abbrev pub invariant-loop-q : goal.invariant-loop-q
invariant-loop-q l = record {
  stated : (q : ℕ) → q < l.q → (r : Rows) → slice_get l.sizes q ≡ Some r → AreStatedAs (kind_of l.p.arithmetic q) r.list;
  line : (n : ℕ) → u64_saturate (l.line + n) ≡ u64_saturate (l.first + before (λ (r : Rows). length r.list) l.sizes l.q + n);
  none : (q : ℕ) → q < l.q → (r : Rows) → slice_get l.sizes q ≡ Some r → (names : List (List ℕ)) → AreNamed names l.p.preds → AllPairs (λ a b. a ≢ b) names
      → NoneFails (SizesFail l.p names) (lines_from 0 (size_line (pred_text l.p names q)) r.list);
}
