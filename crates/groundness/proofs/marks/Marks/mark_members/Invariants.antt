use Rattle.std.proofs.Common.{◌≡◌, ◌<◌, ℕ, length, slice_get, Some}
use Rattle.cti_terms.specs.declared.predicates.PredId.{PredId}
use Rattle.groundness.specs.Marks.{HasUser, IsMarked}
use Rattle.groundness.proofs.marks.Marks.mark_members.Given as goal

abbrev pub invariant-loop-member : goal.invariant-loop-member
invariant-loop-member l =
    record {
      each : length l.self ≡ length l.fn.self;
      marked : (i : ℕ) (a : PredId) → i < l.member-index → slice_get l.members i ≡ Some a → (j : ℕ) → HasUser l.heads a.0 j → IsMarked l.self j;
    }
