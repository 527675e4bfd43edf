-- Private.
-- The lexicographic order of derivations.
--
-- To believe: `Before`, `AreAscending`, `IsIn`.
use Rattle.std.specs.Prelude.{◌≡◌, ℕ, ◌<◌, ◌⊎◌, List, [], ◌∷◌}
use Rattle.std.specs.List.{AllByRecursion}

-- a list of numbers comes before another: it is a beginning of it, or has the smaller number where they first differ
abbrev pub Before : List ℕ → List ℕ → Type 0
Before ks [] = ⊥
Before [] (l ∷ ls) = Unit {0}
Before (k ∷ ks) (l ∷ ls) = (k < l) ⊎ ((k ≡ l) × Before ks ls)

-- each comes before all that follow it
abbrev pub AreAscending : List (List ℕ) → Type 0
AreAscending [] = Unit {0}
AreAscending (ks ∷ kss) = AllByRecursion (Before ks) kss × AreAscending kss

-- one of the elements is this one
abbrev pub IsIn : {X : Type 0} → X → List X → Type 0
IsIn x [] = ⊥
IsIn x (y ∷ ys) = (y ≡ x) ⊎ IsIn x ys
