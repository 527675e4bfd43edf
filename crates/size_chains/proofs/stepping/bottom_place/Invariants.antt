use Rattle.std.proofs.Common.{◌≡◌, ℕ, ◌<◌, slice_get, Some}
use Rattle.linear_rows.specs.Plain.{plain_row}
use Rattle.linear_rows.specs.declared.row.Row.{Row}
use Rattle.termination_model.specs.chains.ChainRows.{bottom_row}
use Rattle.size_chains.proofs.stepping.bottom_place.Given as goal

abbrev pub invariant-loop-i : goal.invariant-loop-i
invariant-loop-i l = (j n : ℕ) (r : Row) → j < l.i → slice_get l.rows j ≡ Some r → plain_row r ≡ bottom_row n → ⊥
