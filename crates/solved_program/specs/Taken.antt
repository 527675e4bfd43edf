-- Private.
-- What is taken from one table into another one.
use Rattle.std.specs.Prelude.{◌≡◌, ℕ, ◌==◌, ◌||◌, ◌-◌, Bool, false, if◌then◌else◌, List, [], ◌∷◌, slice_get}

-- whether a number is one of these
abbrev pub is_among : List ℕ → ℕ → Bool
is_among [] x = false
is_among (y ∷ ys) x = (y == x) || is_among ys x

-- these places have what the other table has there, and all others have what they had
abbrev pub AreTaken : {X : Type 0} → List ℕ → List X → List X → List X → Type 0
AreTaken places from old new = (x : ℕ) → slice_get new x ≡ (if is_among places x then slice_get from x else slice_get old x)

-- the place of a clause in a list
abbrev pub place_of : ℕ → ℕ
place_of k = k - 1
