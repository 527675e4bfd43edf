use Rattle.std.specs.Io.Iter.{u64_saturate}
use Rattle.std.proofs.Common.{◌≡◌, ◌≢◌, ◌+◌, ◌<◌, ℕ, List, slice_get, Option, Some}
use Rattle.std.specs.List.{AllByRecursion, AllPairs}
use Rattle.call_components.specs.Partition.{IsIn}
use Rattle.cert_structure.specs.Order.{pred_text, refutation_facts}
use Rattle.cert_structure.specs.Structure.{AreNamed}
use Rattle.number_tests.specs.Failing.{before}
use Rattle.number_tests.specs.declared.refutation.Refutation.{Refutation}
use Rattle.termination_model.specs.sizes.Sizes.{rows_of}
use Rattle.number_tests.specs.Refuting.{PointHolds, SumsRefute}
use Rattle.cert_checker.specs.Finding.{NoneFails, RefutationsFail}
use Rattle.cert_checker.proofs.RefutationLaws.{refutation_count}
use Rattle.cert_checker.proofs.refutation_faults.refutation_fault.Given as goal

abbrev pub invariant-loop-q : goal.invariant-loop-q
invariant-loop-q g l = record {
  hold : (q : ℕ) → q < l.q → (c : ℕ) (r : Refutation) (members : List ℕ) → slice_get l.parts.refutations q ≡ Some (Some r) → IsIn l.comps c q → slice_get l.comps.members c ≡ Some members
      → SumsRefute (g.N.Norm.expression l.norm) l.p members r.points × AllByRecursion (PointHolds (g.N.Norm.expression l.norm) l.p (rows_of l.parts.rows)) r.points;
  line : (n : ℕ) → u64_saturate (l.line + n) ≡ u64_saturate (l.first + before refutation_count l.parts.refutations l.q + n);
  none : (q : ℕ) → q < l.q → (o : Option Refutation) → slice_get l.parts.refutations q ≡ Some o → (names : List (List ℕ)) → AreNamed names l.p.preds → AllPairs (λ a b. a ≢ b) names
      → NoneFails (RefutationsFail (g.N.Norm.expression l.norm) l.p names l.comps l.parts) (refutation_facts (pred_text l.p names q) o);
}
