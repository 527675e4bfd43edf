-- To believe, for the modes.
-- Lists of size rows in a chain: the row that holds nowhere, sublists, and joins.
--
-- The rows that a domain speaks of are given by a test, `speaks`: for polyhedra it is true of rows whose numbers fit.
--
-- To believe: all of this file.
use Rattle.std.specs.Prelude.{◌≡◌, ℕ, suc, ◌≤◌, ◌↔◌, ℤ, Bool, true, ◌⊎◌, List, [], ◌∷◌, length, Option, None, Some}
use Rattle.std.specs.List.{AllByRecursion}
use Rattle.linear_rows.specs.Rows.{AllHold, HoldsOn}
pub use Rattle.linear_rows.specs.Showing.{bottom_row}
use Rattle.linear_rows.specs.Systems.{join_blown, join_left}
use Rattle.linear_rows.specs.Irredundant.{IsIrredundant}

-- a point of n naturals at which the rows hold
pub record HasPoint (n : ℕ) (rows : List (List ℤ)) : Type 0 where
  pub t : ℕ
  pub w : List ℕ
  pub some : 1 ≤ t
  pub long : length w ≡ n
  pub hold : AllHold rows t w

-- the second list is the first without some rows: one fact for each row that stays, one for each that goes
abbrev pub Sieved : (List ℤ → Type 0) → (List ℤ → Type 0) → List (List ℤ) → List (List ℤ) → Type 0
Sieved Stays Goes [] ys = ys ≡ []
Sieved Stays Goes (x ∷ xs) ys = (Stays x × (zs : List (List ℤ)) × (ys ≡ x ∷ zs) × Sieved Stays Goes xs zs) ⊎ (Goes x × Sieved Stays Goes xs ys)

-- the second list is a sublist of the first
abbrev pub HasSublist : List (List ℤ) → List (List ℤ) → Type 0
HasSublist = Sieved (λ _. Unit {0}) (λ _. Unit {0})

-- elimination is blown: at a step, and because a number does not fit, or because too many rows are left
abbrev pub IsBlown : Option (ℕ × Bool) → Type 0
IsBlown blown = (at : ℕ × Bool) × (blown ≡ Some at)

-- rows of n coefficients of which a domain speaks
abbrev pub AreSpoken : (List ℤ → Bool) → ℕ → List (List ℤ) → Type 0
AreSpoken speaks n rows = AllByRecursion (λ r. (length r ≡ suc n) × (speaks r ≡ true)) rows

-- an irredundant sublist of the join's rows, on which the same rows hold as on both
pub record IsJoin (speaks : List ℤ → Bool) (n : ℕ) (first second rows : List (List ℤ)) : Type 0 where
  pub decided : join_blown n first second ≡ None
  pub part : HasSublist (join_left n first second) rows
  pub irredundant : IsIrredundant n rows
  pub spoken : AreSpoken speaks n rows
  pub same : (r : List ℤ) → length r ≡ suc n → speaks r ≡ true → HoldsOn (suc n) rows r ↔ (HoldsOn (suc n) first r × HoldsOn (suc n) second r)
