use Rattle.std.specs.Io.Iter.{u64_saturate}
use Rattle.std.proofs.Common.{◌≡◌, ◌≢◌, ◌+◌, ◌<◌, ℕ, List, length, slice_get, Some, false}
use Rattle.std.specs.List.{AllByRecursion, AllPairs}
use Rattle.call_components.specs.Partition.{IsIn}
use Rattle.cert_structure.specs.Numbered.{lines_from}
use Rattle.cert_structure.specs.Order.{measure_line, pred_text}
use Rattle.cert_structure.specs.Structure.{AreNamed}
use Rattle.number_tests.specs.Failing.{before}
use Rattle.number_tests.specs.Shape.{list_at}
use Rattle.number_tests.specs.declared.level_part.LevelPart.{LevelPart}
use Rattle.cert_checker.specs.Finding.{MeasuresFail, NoneFails}
use Rattle.cert_checker.specs.Proved.{IsZero}
use Rattle.cert_checker.proofs.measure_faults.measure_fault.Given as goal

abbrev pub invariant-loop-q : goal.invariant-loop-q
invariant-loop-q l = record {
  zero : (q : ℕ) → q < l.q → (c : ℕ) → IsIn l.comps c q → slice_get l.comps.recursive c ≡ Some false → AllByRecursion IsZero (list_at l.parts.levels q);
  line : (n : ℕ) → u64_saturate (l.line + n) ≡ u64_saturate (l.first + before (λ (ls : List LevelPart). length ls) l.parts.levels l.q + n);
  none : (q : ℕ) → q < l.q → (ls : List LevelPart) → slice_get l.parts.levels q ≡ Some ls → (names : List (List ℕ)) → AreNamed names l.p.preds → AllPairs (λ a b. a ≢ b) names
      → NoneFails (MeasuresFail l.p names l.comps) (lines_from 0 (measure_line (pred_text l.p names q)) ls);
}
