-- Private.
-- What is found, case by case. Nothing here has to be believed.
use Rattle.std.specs.Prelude.{ℕ, List, [], ◌∷◌}

-- the sets that stand for all where nothing is decided: the empty one, and that of all positions
abbrev pub undecided : List ℕ → List (List ℕ)
undecided [] = [] ∷ []
undecided (x ∷ xs) = [] ∷ (x ∷ xs) ∷ []
