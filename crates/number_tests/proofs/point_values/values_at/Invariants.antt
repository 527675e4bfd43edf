use Rattle.std.proofs.Common.{◌≡◌, ◌<◌, ℕ, List, ℤ, slice_get, Some, take}
use Rattle.linear_rows.specs.Plain.{plain_rows}
use Rattle.number_tests.specs.Refuting.{ValueFits, values_of}
use Rattle.number_tests.proofs.point_values.values_at.Given as goal

abbrev pub invariant-loop-size : goal.invariant-loop-size
invariant-loop-size l = record {
  values : l.values ≡ values_of (take l.size-index (plain_rows l.sizes.list)) l.point;
  fit : (i : ℕ) → i < l.size-index → (e : List ℤ) → slice_get (plain_rows l.sizes.list) i ≡ Some e → ValueFits l.point e;
}
