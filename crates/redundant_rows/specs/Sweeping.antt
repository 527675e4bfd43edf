-- Private.
-- A sweep over rows. Nothing here has to be believed.
use Rattle.std.specs.Prelude.{Bool, true, false, ℕ, suc, ◌<◌, ◌⊎◌, ℤ, List, [], length, slice_index_or}
use Rattle.linear_rows.specs.Irredundant.{Fails, TestIsBlown, without_place}
use Rattle.linear_rows.specs.Rows.{HoldsOn}
use Rattle.redundant_rows.specs.Choosing.{AllHoldOn}
use Rattle.termination_model.specs.chains.ChainRows.{HasSublist}

-- true for a row that holds on rows of n coefficients each, and false for one that fails at a point of them or has a
-- blown test there
abbrev pub Decides : ℕ → List (List ℤ) → List ℤ → Bool → Type 0
Decides n rows row true = HoldsOn (suc n) rows row
Decides n rows row false = Fails n rows row ⊎ TestIsBlown n rows row

-- the row at a place fails at a point of the others, or its test there is blown
abbrev pub IsNeeded : ℕ → List (List ℤ) → ℕ → Type 0
IsNeeded n rows i = Fails n (without_place i rows) (slice_index_or rows i []) ⊎ TestIsBlown n (without_place i rows) (slice_index_or rows i [])

-- the row at a place holds on the others
abbrev pub IsImplied : ℕ → List (List ℤ) → ℕ → Type 0
IsImplied n rows i = HoldsOn (suc n) (without_place i rows) (slice_index_or rows i [])

-- the first rows, up to a place, are needed
abbrev pub IsSwept : ℕ → List (List ℤ) → ℕ → Type 0
IsSwept n rows place = (i : ℕ) → i < place → i < length rows → IsNeeded n rows i

-- rows from which some were taken out that hold on the rest
pub record IsLess (n : ℕ) (all rows : List (List ℤ)) : Type 0 where
  pub part : HasSublist all rows
  pub covers : AllHoldOn n rows all
