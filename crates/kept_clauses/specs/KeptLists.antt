-- Private.
-- Which elements of one list are those of another one. Elements count from 1.
use Rattle.std.specs.Prelude.{◌≡◌, ℕ, zero, suc, ◌-◌, ◌<◌, ◌≤◌, List, [], ◌∷◌, length, slice_get, Option, Some, None}
use Rattle.std.specs.List.{insert, remove}

-- for each element of the new list the number of the old element that it is, if it was kept
pub record AreKeptList {X : Type 0} (old new : List X) (kept : List (Option ℕ)) : Type 0 where
  pub each : length kept ≡ length new
  pub same : (i j : ℕ) → slice_get kept i ≡ Some (Some j) → (1 ≤ j) × (slice_get old (j - 1) ≡ slice_get new i)

-- what is kept has kept its order
abbrev pub IsIncreasing : List (Option ℕ) → Type 0
IsIncreasing kept = (i k j l : ℕ) → i < k → slice_get kept i ≡ Some (Some j) → slice_get kept k ≡ Some (Some l) → j < l

-- each new element is an old one
abbrev pub IsTotal : List (Option ℕ) → Type 0
IsTotal kept = (i : ℕ) → i < length kept → (j : ℕ) × (slice_get kept i ≡ Some (Some j))

-- each of n old elements was kept
abbrev pub IsOnto : ℕ → List (Option ℕ) → Type 0
IsOnto n kept = (j : ℕ) → j < n → (i : ℕ) × (slice_get kept i ≡ Some (Some (suc j)))

-- ---- one edit
-- the numbers of n elements from this one on
abbrev pub kept_from : ℕ → ℕ → List (Option ℕ)
kept_from first zero = []
kept_from first (suc n) = Some first ∷ kept_from (suc first) n

-- one element is put into a list of n
abbrev pub kept_by_insertion : ℕ → ℕ → List (Option ℕ)
kept_by_insertion n at = insert (kept_from 1 n) at None

-- one element is taken out
abbrev pub kept_by_removal : ℕ → ℕ → List (Option ℕ)
kept_by_removal n at = remove (kept_from 1 n) at
