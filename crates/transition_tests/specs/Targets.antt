-- Private.
-- To believe, for the modes by measures of numbers.
-- What multipliers have to show of a target over a transition's naturals.
--
-- A target that needs an expression which is not there is shown by scale 0 alone: the rows then hold nowhere. Of a
-- target only the finished numbers have to fit.
--
-- To believe: all of this file.
use Rattle.std.specs.Prelude.{◌≡◌, ℕ, ℤ, pos, List, Option, None, Some}
use Rattle.linear_rows.specs.Showing.{Shows, bottom_row}
use Rattle.linear_rows.specs.declared.multipliers.Multipliers.{Multipliers}
use Rattle.termination_model.specs.columns.ColumnRows.{least_over}

-- multipliers of the rows, of n coefficients each, show a target
abbrev pub IsTargetShown : List (List ℤ) → ℕ → Option (List ℤ) → Multipliers → Type 0
IsTargetShown rows n None by = Shows rows (bottom_row n) by × (by.scale ≡ pos 0)
IsTargetShown rows n (Some target) by = Shows rows target by

-- they show a size row of a head with these columns
abbrev pub IsSizeRowShown : List (List ℤ) → ℕ → List (Option (List ℤ)) → List ℤ → Multipliers → Type 0
IsSizeRowShown rows n heads row by = IsTargetShown rows n (least_over n heads row) by
