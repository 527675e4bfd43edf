-- To believe, for the modes.
-- The plain lists of numbers that rows spell.
use Rattle.std.specs.Prelude.{ℕ, ℤ, List, ◌∷◌, map, length, ◌≡◌}
use Rattle.std.specs.List.{All}
use Rattle.linear_rows.specs.declared.row.Row.{Row}

-- the numbers of a row, the constant first
abbrev pub plain_row : Row → List ℤ
plain_row r = r.constant ∷ r.coeffs

-- the numbers of rows
abbrev pub plain_rows : List Row → List (List ℤ)
plain_rows rows = map plain_row rows

-- each row has this many coefficients
abbrev pub HaveWidth : ℕ → List Row → Type 0
HaveWidth n rows = All (λ r. length r.coeffs ≡ n) rows
