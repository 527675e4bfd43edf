-- Private.
-- The variables that a list of atoms or terms still asks for from some place on, and sets of rows that say enough of
-- those alone. Nothing here has to be believed.
use Rattle.std.specs.Prelude.{ℕ, ◌≡◌, ◌<◌, ◌+◌, ◌⊎◌, Bool, IsTrue, List, slice_get, Some}
use Rattle.cti_terms.specs.Tree.{Tree}

-- the variable is asked for after n places: its end is greater. One without an end always is
abbrev pub IsAsked : List ℕ → ℕ → ℕ → Type 0
IsAsked ends n x = (e : ℕ) → slice_get ends x ≡ Some e → n < e

-- the rows agree on what is asked for after n places
abbrev pub Agree : List ℕ → ℕ → (v w : ℕ → Bool) → Type 0
Agree ends n v w = (x : ℕ) → IsAsked ends n x → v x ≡ w x

-- the truth of the term is determined by what is asked for after n places
abbrev pub IsTold : ((ℕ → Bool) → Tree → Bool) → List ℕ → ℕ → Tree → Type 0
IsTold truth ends n t = (v w : ℕ → Bool) → Agree ends n v w → truth v t ≡ truth w t

-- the row has the term's truth in the variable of its place, or the truth is determined by what is asked for before the
-- end
abbrev pub IsPlacedOrTold : ((ℕ → Bool) → Tree → Bool) → List ℕ → (end : ℕ) → (row : ℕ → Bool) → (j : ℕ) → Tree → Type 0
IsPlacedOrTold truth ends end row j t = (row (48 + j) ≡ truth row t) ⊎ ((n : ℕ) → n < end → IsTold truth ends n t)

-- of each term, v has the truth in the variable of its place, or the same truth as the row
abbrev pub ArePlacedOrSame : ((ℕ → Bool) → Tree → Bool) → (v row : ℕ → Bool) → List Tree → Type 0
ArePlacedOrSame truth v row ts = (j : ℕ) (t : Tree) → slice_get ts j ≡ Some t → (v (48 + j) ≡ truth v t) ⊎ (truth v t ≡ truth row t)

-- the set has the rows of P, and each of its rows agrees with one of these on what is asked for after n places
pub record SaysAsked (ends : List ℕ) (n : ℕ) (P : (ℕ → Bool) → Type 0) (set : (ℕ → Bool) → Bool) : Type 0 where
  pub all : (v : ℕ → Bool) → P v → IsTrue (set v)
  pub some : (row : ℕ → Bool) → IsTrue (set row) → (v : ℕ → Bool) × Agree ends n v row × P v
