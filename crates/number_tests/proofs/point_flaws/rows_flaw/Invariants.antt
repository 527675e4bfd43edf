use Rattle.std.proofs.Common.{◌≡◌, ◌↔◌, ◌<◌, ℕ, ℤ, List, None, Some, slice_get}
use Rattle.linear_rows.specs.Plain.{plain_rows}
use Rattle.number_tests.specs.Refuting.{ValueFits}
use Rattle.number_tests.specs.SystemPoints.{ValueHolds}
use Rattle.number_tests.specs.declared.flaw.Flaw.TheVariants as flaw
use Rattle.number_tests.proofs.point_flaws.rows_flaw.Given as goal

abbrev pub invariant-loop-row : goal.invariant-loop-row
invariant-loop-row l = record {
  hold : (l.below ≡ None) ↔ ((i : ℕ) → i < l.row-index → (row : List ℤ) → slice_get (plain_rows l.system.rows.list) i ≡ Some row → ValueHolds l.point row);
  fit : (i : ℕ) → i < l.row-index → (row : List ℤ) → slice_get (plain_rows l.system.rows.list) i ≡ Some row → ValueFits l.point row;
  below : (l.below ≡ Some flaw.Wide) → ⊥;
}
