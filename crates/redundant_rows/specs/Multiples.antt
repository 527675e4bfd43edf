-- Private.
-- Rows that are at least a multiple of another row. Nothing here has to be believed.
use Rattle.std.specs.Prelude.{ℕ, ◌<◌, ℤ, pos, ◌≤ℤ◌, ◌*ℤ◌, List, length}
use Rattle.exact128.specs.Sums.{entry}

-- no number of a row is below 0
abbrev pub IsNatural : List ℤ → Type 0
IsNatural row = (k : ℕ) → k < length row → pos 0 ≤ℤ entry row k

-- a row, times a number of at least 1, is in each column at least a natural number of times another row
pub record IsMultiple (row other : List ℤ) (times scale : ℤ) : Type 0 where
  pub natural : pos 0 ≤ℤ times
  pub some : pos 1 ≤ℤ scale
  pub columns : (k : ℕ) → k < length row → (times *ℤ entry other k) ≤ℤ (scale *ℤ entry row k)
