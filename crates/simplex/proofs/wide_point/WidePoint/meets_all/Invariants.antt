use Rattle.std.proofs.Common.{ℕ, pos, ◌<◌, get_or, map}
use Rattle.std.specs.Prelude.{◌≤ℤ◌}
use Rattle.exact128.specs.Sums.{dot}
use Rattle.exact384.specs.Value.{value_of}
use Rattle.linear_rows.specs.Plain.{plain_row}
use Rattle.linear_rows.specs.declared.row.Row.{Row}
use Rattle.simplex.proofs.wide_point.WidePoint.meets_all.Given as goal

abbrev pub invariant-loop-row : goal.invariant-loop-row
invariant-loop-row l = (k : ℕ) (d : Row) → k < l.row-index → pos 0 ≤ℤ dot (map value_of l.self.numbers.items) (plain_row (get_or l.rows.list k d))
