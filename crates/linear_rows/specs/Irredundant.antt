-- A procedure, to believe for who is blown.
-- When the test of a row is blown, and lists of rows that no test makes shorter.
--
-- This retells a procedure, and no promise on sizes or levels rests on it.
use Rattle.std.specs.Prelude.{◌≡◌, ℕ, suc, ℤ, List, [], ◌++◌, ◌+◌, ◌<◌, ◌≤◌, ◌⊎◌, take, drop, length, slice_index_or}
use Rattle.exact128.specs.Sums.{entry}
use Rattle.linear_rows.specs.Rows.{Holds, AllHold}
use Rattle.linear_rows.specs.Proves.{ColumnFits}
use Rattle.linear_rows.specs.Solving.{Solution, solution}
use Rattle.linear_rows.specs.Solving.Solution.{Blown, Found, Refuted}
use Rattle.linear_rows.specs.Systems.{test_rows}

-- the test of multipliers meets a number that does not fit before a difference below 0
abbrev pub IsWide : List (List ℤ) → List ℤ → List ℤ → ℤ → Type 0
IsWide rows ms target scale =
    (k : ℕ) × (k < length target) × ((j : ℕ) → j < k → ColumnFits rows ms target scale j) × ¬ ColumnFits rows ms target scale k

-- the test whether a row holds on rows of n coefficients is blown: its solving is, or its multipliers' test is Wide
abbrev pub EndsBlown : List (List ℤ) → List ℤ → Solution → Type 0
EndsBlown rows row (Blown step wide) = Unit {0}
EndsBlown rows row (Found t w) = ⊥
EndsBlown rows row (Refuted ms) = IsWide rows (take (length rows) ms) row (entry ms (suc (length rows)))

abbrev pub TestIsBlown : ℕ → List (List ℤ) → List ℤ → Type 0
TestIsBlown n rows row = EndsBlown rows row (solution (n + 1) (test_rows n rows row))

-- the rows without the one at a place
abbrev pub without_place : ℕ → List (List ℤ) → List (List ℤ)
without_place i rows = take i rows ++ drop (suc i) rows

-- a point of n naturals at which the rows hold and the row fails
pub record Fails (n : ℕ) (rows : List (List ℤ)) (row : List ℤ) : Type 0 where
  pub t : ℕ
  pub w : List ℕ
  pub some : 1 ≤ t
  pub long : length w ≡ n
  pub hold : AllHold rows t w
  pub fails : ¬ Holds row t w

-- each row fails at a point at which the others hold, or has a blown test on the others
abbrev pub IsIrredundant : ℕ → List (List ℤ) → Type 0
IsIrredundant n rows =
    (i : ℕ) → i < length rows → Fails n (without_place i rows) (slice_index_or rows i []) ⊎ TestIsBlown n (without_place i rows) (slice_index_or rows i [])
