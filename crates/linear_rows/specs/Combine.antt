-- Private.
-- Sums of multiplied rows.
use Rattle.std.specs.Prelude.{◌≡◌, ℕ, ℤ, List, ◌<◌, length}
use Rattle.exact128.specs.Sums.{entry, dot, DotFits}
use Rattle.linear_rows.specs.Rows.{column}

-- each product and running sum of the first n columns of the multiplied rows fits
abbrev pub CombineFits : ℕ → List (List ℤ) → List ℤ → Type 0
CombineFits n rows ms = (k : ℕ) → k < n → DotFits (length rows) ms (column rows k)

-- a row of n numbers is the sum of the multiplied rows
abbrev pub IsCombination : ℕ → List (List ℤ) → List ℤ → List ℤ → Type 0
IsCombination n rows ms row = (length row ≡ n) × ((k : ℕ) → k < n → entry row k ≡ dot ms (column rows k))
