use Rattle.std.proofs.Common.{◌≡◌, ◌<◌, ℕ, length, slice_get, Some}
use Rattle.groundness.specs.Marks.{IsMarked}
use Rattle.groundness.proofs.marks.Marks.mark_all.Given as goal

abbrev pub invariant-loop-clause : goal.invariant-loop-clause
invariant-loop-clause l =
    record {
      each : length l.self ≡ length l.fn.self;
      marked : (i j : ℕ) → i < l.clause-index → slice_get l.clauses i ≡ Some j → IsMarked l.self j;
      more : (j : ℕ) → IsMarked l.fn.self j → IsMarked l.self j;
    }
