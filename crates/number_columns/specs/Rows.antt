-- Private.
-- The row of a column of a term, where the column has an expression whose numbers fit.
--
-- To believe: all of this file, for who reads the contract of `value_rows`.
use Rattle.std.specs.Prelude.{◌≡◌, ℤ, List, Option, None, Some}
use Rattle.linear_rows.specs.Replacing.{IsRowIfFits}
use Rattle.linear_rows.specs.declared.row.Row.{Row}

-- the expression, where there is one and each of its numbers fits, and else nothing
abbrev pub IsExpressionRow : Option (List ℤ) → Option Row → Type 0
IsExpressionRow None row = row ≡ None
IsExpressionRow (Some e) row = IsRowIfFits e row
