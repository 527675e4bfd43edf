use Rattle.std.proofs.Common.{◌≡◌, ◌<◌, ℕ, Bool, true, IsTrue, slice_get, Some}
use Rattle.bool_diagrams.specs.Rows.{Keeps, holds}
use Rattle.truth_rows.proofs.covering.is_covered.Given as goal

abbrev pub invariant-loop-argument : goal.invariant-loop-argument
invariant-loop-argument l =
    record {
      keeps : Keeps l.fn.table l.table;
      covered : (j : ℕ) → j < l.argument → slice_get l.positive j ≡ Some true → (row : ℕ → Bool) → IsTrue (holds l.fn.table l.set row) → IsTrue (row j);
    }
