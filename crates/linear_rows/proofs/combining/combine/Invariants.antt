use Rattle.std.proofs.Common.{◌∷◌, ◌+◌}
use Rattle.linear_rows.specs.Plain.{plain_rows}
use Rattle.linear_rows.proofs.Combines.{IsPartial}
use Rattle.linear_rows.proofs.combining.combine.Given as goal

abbrev pub invariant-loop-k : goal.invariant-loop-k
invariant-loop-k l = IsPartial (l.k + 1) (plain_rows l.rows.list) l.multipliers (l.constant ∷ l.coeffs)
