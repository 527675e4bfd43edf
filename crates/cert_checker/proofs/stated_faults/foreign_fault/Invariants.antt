use Rattle.std.proofs.Common.{◌≡◌, ◌<◌, ℕ, slice_get, Some}
use Rattle.linear_rows.specs.Members.{In}
use Rattle.linear_rows.specs.Plain.{plain_row}
use Rattle.linear_rows.specs.declared.row.Row.{Row}
use Rattle.termination_model.specs.sizes.Stated.{stated_rows}
use Rattle.cert_checker.proofs.stated_faults.foreign_fault.Given as goal

abbrev pub invariant-loop-i : goal.invariant-loop-i
invariant-loop-i l = (j : ℕ) → j < l.i → (row : Row) → slice_get l.rows.list j ≡ Some row → In (plain_row row) (stated_rows l.kind)
