use Rattle.std.proofs.Common.{◌≡◌, ◌+◌, ◌<◌, ◌≤◌, ℕ, length, slice_get, Some}
use Rattle.cti_terms.specs.declared.clauses.Clause.{Clause}
use Rattle.groundness.specs.Marks.{HasUser}
use Rattle.groundness.proofs.clause_lists.heads.Given as goal

abbrev pub invariant-loop-k : goal.invariant-loop-k
invariant-loop-k l =
    record {
      each : length l.lists ≡ length l.p.preds;
      within : (q j : ℕ) → HasUser l.lists q j → j < length l.p.clauses;
      all : (j : ℕ) (c : Clause) → length l.p.clauses ≤ j + l.k → slice_get l.p.clauses j ≡ Some c → HasUser l.lists c.head.pred.0 j;
    }
