-- A procedure, to believe for who is blown.
-- The rows that steps of elimination leave.
--
-- This retells a procedure. No promise on sizes or levels rests on it: it says which rows are left, and so when a
-- system is blown. What it is for is the law `elimination_projects` of
-- this crate.
use Rattle.std.specs.Prelude.{◌≡◌, ◌≢◌, ℕ, zero, suc, ℤ, pos, List, [], ◌∷◌, ◌+◌, ◌≤◌, ◌≤ℤ◌}
use Rattle.exact128.specs.Sums.{entry}
use Rattle.linear_rows.specs.Members.{In}
use Rattle.linear_rows.specs.Cleaning.{cleaned}
use Rattle.linear_rows.specs.Equation.{step}

-- the rows that one step leaves: the columns 0 to m are compared, later ones are carried along
abbrev pub eliminated : ℕ → ℕ → List (List ℤ) → List (List ℤ)
eliminated m k rows = cleaned m (step (m + 1) k rows)

-- the rows that steps leave, one for each of these columns in order
abbrev pub all_eliminated : ℕ → List ℕ → List (List ℤ) → List (List ℤ)
all_eliminated m [] rows = rows
all_eliminated m (k ∷ ks) rows = all_eliminated m ks (eliminated m k rows)

-- a row says that the variable of column k is at least 0, or at least a number above it
pub record Floors (m k : ℕ) (row : List ℤ) : Type 0 where
  pub rises : pos 1 ≤ℤ entry row k
  pub others : (j : ℕ) → 1 ≤ j → j ≤ m → j ≢ k → entry row j ≡ pos 0
  pub low : entry row 0 ≤ℤ pos 0

-- some row says so
pub record HasFloor (m k : ℕ) (rows : List (List ℤ)) : Type 0 where
  pub row : List ℤ
  pub here : In row rows
  pub floors : Floors m k row

-- columns of variables
abbrev pub Within : ℕ → List ℕ → Type 0
Within m ks = (k : ℕ) → In k ks → (1 ≤ k) × (k ≤ m)

-- the given number of columns, from k on
abbrev pub columns : ℕ → ℕ → List ℕ
columns k zero = []
columns k (suc n) = k ∷ columns (suc k) n
