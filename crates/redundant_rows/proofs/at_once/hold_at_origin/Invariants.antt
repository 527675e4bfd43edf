use Rattle.std.proofs.Common.{ℕ, ◌<◌, pos}
use Rattle.std.specs.Prelude.{◌≤ℤ◌, slice_index_or}
use Rattle.linear_rows.specs.declared.row.Row.{Row}
use Rattle.redundant_rows.proofs.at_once.hold_at_origin.Given as goal

abbrev pub invariant-loop-k : goal.invariant-loop-k
invariant-loop-k l = (j : ℕ) → j < l.k → (d : Row) → pos 0 ≤ℤ (slice_index_or l.rows.list j d).constant
