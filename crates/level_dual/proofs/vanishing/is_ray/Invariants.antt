use Rattle.std.proofs.Common.{ℕ, pos, ◌<◌, ◌∷◌, get_or}
use Rattle.std.specs.Prelude.{◌≤ℤ◌}
use Rattle.exact128.specs.Sums.{dot}
use Rattle.linear_rows.specs.Plain.{plain_row}
use Rattle.linear_rows.specs.declared.row.Row.{Row}
use Rattle.level_dual.proofs.vanishing.is_ray.Given as goal

abbrev pub invariant-loop-i : goal.invariant-loop-i
invariant-loop-i l = (k : ℕ) (d : Row) → k < l.i → pos 0 ≤ℤ dot (plain_row (get_or l.rows.list k d)) (pos 0 ∷ l.ray)
