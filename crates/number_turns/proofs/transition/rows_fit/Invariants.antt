use Rattle.std.proofs.Common.{◌≡◌, drop}
use Rattle.linear_rows.specs.Blown.{all_of}
use Rattle.linear_rows.specs.Plain.{plain_row}
use Rattle.linear_rows.specs.Replacing.{row_fits}
use Rattle.number_turns.proofs.transition.rows_fit.Given as goal

abbrev pub invariant-loop-row : goal.invariant-loop-row
invariant-loop-row l = all_of (λ r. row_fits (plain_row r)) (drop l.row-index l.rows) ≡ all_of (λ r. row_fits (plain_row r)) l.rows
