use Rattle.std.proofs.Common.{ℕ, ◌<◌}
use Rattle.linear_rows.specs.Verdict.{ColumnSays}
use Rattle.linear_rows.specs.Plain.{plain_row, plain_rows}
use Rattle.linear_rows.specs.declared.multipliers.Proof.TheVariants.{Holds}
use Rattle.linear_rows.proofs.proving.proves.Given as goal

abbrev pub invariant-loop-k : goal.invariant-loop-k
invariant-loop-k l = (j : ℕ) → j < l.k → ColumnSays (plain_rows l.rows.list) l.multipliers (plain_row l.target) l.scale Holds j
