-- Private.
-- Predicates sorted by a number of each. Nothing here has to be believed.
use Rattle.std.specs.Prelude.{◌≡◌, ℕ, ◌+◌, ◌<◌, List, [], ◌∷◌, length, ◌==◌, if◌then◌else◌, slice_get, slice_index_or, Some}
use Rattle.call_components.specs.Table.{HasCall}

-- the places from n on of a number in a list
abbrev pub places_of : ℕ → ℕ → List ℕ → List ℕ
places_of c n [] = []
places_of c n (x ∷ xs) = if x == c then n ∷ places_of c (n + 1) xs else places_of c (n + 1) xs

-- a row for each number below count, of the places where it stands
pub record AreMembers (numbers : List ℕ) (count : ℕ) (members : List (List ℕ)) : Type 0 where
  pub each : length members ≡ count
  pub row : (c : ℕ) → c < count → slice_index_or members c [] ≡ places_of c 0 numbers

-- some predicate of this number among the first k calls one of it
abbrev pub CallsWithin : List (List ℕ) → List ℕ → ℕ → ℕ → Type 0
CallsWithin rows numbers c k = (a : ℕ) × (b : ℕ) × (a < k) × (slice_get numbers a ≡ Some c) × (slice_get numbers b ≡ Some c) × HasCall rows a b
