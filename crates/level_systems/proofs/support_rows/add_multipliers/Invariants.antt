use Rattle.std.proofs.Common.{◌≡◌, ◌++◌, map, take}
use Rattle.std.specs.Prelude.{neg_ℤ}
use Rattle.exact128.specs.Sums.{entry}
use Rattle.linear_rows.specs.Plain.{plain_row}
use Rattle.level_systems.proofs.support_rows.add_multipliers.Given as goal

abbrev pub invariant-loop-before : goal.invariant-loop-before
invariant-loop-before l = l.row.items ≡ l.fn.row.items ++ map (λ r. neg_ℤ (entry (plain_row r) l.x)) (take l.before-index l.rows)
