use Rattle.std.proofs.Common.{◌≡◌, ◌++◌, drop, map}
use Rattle.linear_rows.specs.Plain.{plain_rows}
use Rattle.size_chains.specs.Making.{plain_or_none}
use Rattle.size_chains.specs.Norms.{all_some}
use Rattle.size_chains.proofs.norms.columns.Given as goal

abbrev pub invariant-loop-row : goal.invariant-loop-row
invariant-loop-row l = map plain_or_none l.columns ++ all_some (plain_rows (drop l.row-index l.rows)) ≡ all_some (plain_rows l.rows)
