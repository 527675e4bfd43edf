-- To believe, for the modes.
-- Minimal sets of numbers: ascending lists from 1 on, as modes are.
--
-- `Has s` says that there is something with exactly the set s: a decreasing mapping whose support it is, say.
--
-- To believe: `IsMinimal`.
use Rattle.std.specs.Prelude.{◌≡◌, ℕ, suc, ◌<◌, ◌≤◌, ◌⊎◌, true, List, [], ◌∷◌}
use Rattle.linear_rows.specs.Members.{In}
use Rattle.termination_model.specs.grounds.Modes.{is_part}

-- ascending numbers from lo on, all below hi
abbrev pub IsSet : ℕ → ℕ → List ℕ → Type 0
IsSet lo hi [] = Unit {0}
IsSet lo hi (x ∷ xs) = (lo ≤ x) × (x < hi) × IsSet (suc x) hi xs

-- some set of the list is part of this one
abbrev pub IsAbove : List (List ℕ) → List ℕ → Type 0
IsAbove list s = (t : List ℕ) × In t list × (is_part t s ≡ true)

module _ (Has : List ℕ → Type 0) where
  -- there is nothing with a part of the set
  abbrev pub IsExcluded : List ℕ → Type 0
  IsExcluded s = (u : List ℕ) → is_part u s ≡ true → Has u → ⊥

  -- there is something with the set, and nothing with any other part of it
  pub record IsMinimal (s : List ℕ) : Type 0 where
    pub had : Has s
    pub least : (u : List ℕ) → is_part u s ≡ true → Has u → u ≡ s

  -- each minimal set is found, or is above one that was given up
  abbrev pub FindsMinimal : List (List ℕ) → List (List ℕ) → Type 0
  FindsMinimal found blown = (s : List ℕ) → IsMinimal s → In s found ⊎ IsAbove blown s
