use Rattle.std.specs.Io.Iter.{u64_saturate}
use Rattle.std.proofs.Common.{◌≡◌, ◌+◌, ◌<◌, ℕ, List, slice_get, Some}
use Rattle.cti_terms.specs.declared.clauses.Clause.{Clause}
use Rattle.cert_structure.specs.Numbered.{facts_from, lines_from}
use Rattle.cert_structure.specs.Order.{falls_line}
use Rattle.linear_rows.specs.declared.multipliers.Multipliers.{Multipliers}
use Rattle.number_tests.specs.Failing.{before}
use Rattle.number_tests.specs.Shape.{list_at}
use Rattle.cert_checker.specs.Finding.{FallsFail, NoneFails}
use Rattle.cert_checker.specs.Proved.{CallsFall}
use Rattle.cert_checker.proofs.FallLaws.{falls_in}
use Rattle.cert_checker.proofs.fall_faults.fall_fault.Given as goal

abbrev pub invariant-loop-k : goal.invariant-loop-k
invariant-loop-k g l = record {
  fall : (k : ℕ) → k < l.k → (c : Clause) → slice_get l.p.clauses k ≡ Some c → CallsFall (g.N.Norm.expression l.norm) l.comps l.parts c (list_at l.parts.falls k);
  line : (n : ℕ) → u64_saturate (l.line + n) ≡ u64_saturate (l.first + before falls_in l.parts.falls l.k + n);
  none : (k : ℕ) → k < l.k → (mss : List (List Multipliers)) → slice_get l.parts.falls k ≡ Some mss → NoneFails (FallsFail (g.N.Norm.expression l.norm) l.p l.comps l.parts) (facts_from 0 (λ j ms. lines_from 0 (falls_line k j) ms) mss);
}
