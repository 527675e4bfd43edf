-- To believe, for the modes.
-- Rows over arguments, with a row over variables in the place of each argument.
--
-- To believe: `substituted`, `row_fits`.
use Rattle.std.specs.Prelude.{◌≡◌, ℕ, zero, suc, ◌<◌, ℤ, pos, Bool, true, false, ◌&&◌, List, [], ◌∷◌, map, length, replicate, slice_index_or, Option, None, Some}
use Rattle.exact128.specs.Fits.{fits}
use Rattle.exact128.specs.Sums.{entry, dot}
use Rattle.linear_rows.specs.RowSums.{scaled, added}
use Rattle.linear_rows.specs.Plain.{plain_row}
use Rattle.linear_rows.specs.declared.row.Row.{Row}

-- the sum of the multiplied rows
abbrev pub combined : List ℤ → List (List ℤ) → List ℤ
combined [] rows = []
combined (m ∷ ms) [] = []
combined (m ∷ ms) (row ∷ rows) = added (scaled m row) (combined ms rows)

-- a row over arguments, with rows over n variables in their place
abbrev pub substituted : ℕ → List (List ℤ) → List ℤ → List ℤ
substituted n es [] = replicate (suc n) (pos 0)
substituted n es (b ∷ row) = added (b ∷ replicate n (pos 0)) (combined row es)

-- whether each number of a row fits
abbrev pub row_fits : List ℤ → Bool
row_fits [] = true
row_fits (z ∷ zs) = fits z && row_fits zs

-- ---- the same by columns, for the code
-- 1 in the column of the constants, and 0 in the others
abbrev pub unit_at : ℕ → ℤ
unit_at zero = pos 1
unit_at (suc x) = pos 0

-- a column of expressions, after what a row's own constant counts there
abbrev pub column_over : List (List ℤ) → ℕ → List ℤ
column_over es x = unit_at x ∷ map (λ e. entry e x) es

-- the columns of expressions over the given number of variables
pub record AreColumns (es : List (List ℤ)) (vars : ℕ) (columns : List (List ℤ)) : Type 0 where
  pub count : length columns ≡ suc vars
  pub each : (x : ℕ) → x < suc vars → slice_index_or columns x [] ≡ column_over es x

-- the row over arguments, column by column
abbrev pub over_columns : List (List ℤ) → List ℤ → List ℤ
over_columns columns row = map (λ c. dot row c) columns

-- the row, where each of its numbers fits, and else nothing
abbrev pub IsRowIfFits : List ℤ → Option Row → Type 0
IsRowIfFits z None = row_fits z ≡ false
IsRowIfFits z (Some r) = (plain_row r ≡ z) × (row_fits z ≡ true)
