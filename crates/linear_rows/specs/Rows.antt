-- To believe, for the modes.
-- Linear rows over naturals, and the points at which they hold.
--
-- A row is one list of whole numbers: its constant b and then its coefficients a1 .. an. A point is a natural t of
-- at least 1 and naturals w1 .. wn, and stands for the rationals w1/t .. wn/t. Numbers are without bound here. The row
-- [0,-1,-1,1] holds at 1, 2, 3, with t = 1: 3 - 1 - 2 is at least 0.
--
-- To believe: `value`, `Holds`, `HoldsOn`, `AreEmpty`. Every promise on sizes and levels is said in these words.
-- Source: linear inequalities as in Schrijver 1986, with one common denominator t for the rationals of a point.
use Rattle.std.specs.Prelude.{◌≡◌, ℕ, ℤ, pos, List, ◌∷◌, ◌+◌, ◌≤◌, ◌≤ℤ◌, map, length, All}
use Rattle.exact128.specs.Sums.{entry, dot}

-- the value of a row at a point, b*t + a1*w1 + .. + an*wn
abbrev pub value_at : List ℤ → ℕ → List ℕ → ℤ
value_at row t w = dot row (pos t ∷ map pos w)

-- a row holds at a point: its value is at least 0
abbrev pub Holds : List ℤ → ℕ → List ℕ → Type 0
Holds row t w = pos 0 ≤ℤ value_at row t w

-- all rows hold at a point
abbrev pub AllHold : List (List ℤ) → ℕ → List ℕ → Type 0
AllHold rows t w = All (λ row. Holds row t w) rows

-- a row of n numbers holds at each point at which the rows hold
abbrev pub HoldsOn : ℕ → List (List ℤ) → List ℤ → Type 0
HoldsOn n rows row = (t : ℕ) (w : List ℕ) → 1 ≤ t → length w + 1 ≡ n → AllHold rows t w → Holds row t w

-- the rows, of n numbers each, hold at no point
abbrev pub AreEmpty : ℕ → List (List ℤ) → Type 0
AreEmpty n rows = (t : ℕ) (w : List ℕ) → 1 ≤ t → length w + 1 ≡ n → AllHold rows t w → ⊥

-- the numbers t and w are a point of n naturals at which the rows hold
pub record IsPoint (n : ℕ) (rows : List (List ℤ)) (t : ℤ) (w : List ℤ) : Type 0 where
  pub scale : ℕ
  pub values : List ℕ
  pub t_is : t ≡ pos scale
  pub w_is : w ≡ map pos values
  pub some : 1 ≤ scale
  pub long : length values ≡ n
  pub hold : AllHold rows scale values

-- a column of rows: column 0 has the constants, column k the coefficients of variable k
abbrev pub column : List (List ℤ) → ℕ → List ℤ
column rows k = map (λ row. entry row k) rows
