use Rattle.std.proofs.Common.{◌≡◌, ◌<◌, ℕ, [], length, slice_index_or}
use Rattle.linear_rows.specs.Plain.{plain_rows}
use Rattle.termination_model.specs.sizes.Replacing.{column_over}
use Rattle.termination_model.proofs.replacing.columns.Given as goal

abbrev pub invariant-loop-x : goal.invariant-loop-x
invariant-loop-x l = record {
  count : length l.columns.items ≡ l.x;
  each : (i : ℕ) → i < l.x → slice_index_or l.columns.items i [] ≡ column_over (plain_rows l.expressions.list) i;
}
