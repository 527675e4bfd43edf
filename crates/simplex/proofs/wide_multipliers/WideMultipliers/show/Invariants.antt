use Rattle.std.proofs.Common.{ℕ, pos, ◌<◌, map}
use Rattle.std.specs.Prelude.{◌≤ℤ◌}
use Rattle.exact384.specs.Value.{value_of}
use Rattle.linear_rows.specs.Plain.{plain_row, plain_rows}
use Rattle.linear_rows.specs.Proves.{rest_number}
use Rattle.simplex.proofs.wide_multipliers.WideMultipliers.show.Given as goal

abbrev pub invariant-loop-place : goal.invariant-loop-place
invariant-loop-place l = (k : ℕ) → k < l.place → pos 0 ≤ℤ rest_number (plain_rows l.rows.list) (map value_of l.fn.self.list.items) (plain_row l.row) (value_of l.fn.self.scale) k
