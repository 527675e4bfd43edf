-- Private.
-- The walk over the sets of places, the smaller ones first, and what it leaves: each minimal set that is had, but for
-- those above a set that was given up.
--
-- Sets are ascending lists of numbers from 1 on, as modes are. `Has s` says that something is had with exactly this
-- set. Nothing here has to be believed.
use Rattle.std.specs.Prelude.{◌≡◌, ℕ, suc, ◌⊎◌, true, List, [], ◌∷◌, ◌++◌, take, slice_get, Some}
use Rattle.linear_rows.specs.Members.{In}
use Rattle.termination_model.specs.grounds.Minimal.{FindsMinimal, IsAbove, IsExcluded, IsMinimal}
use Rattle.termination_model.specs.grounds.Modes.{is_part, chosen_up_to}

module _ (Has : List ℕ → Type 0) where
  -- what is known of a set that was passed
  abbrev pub IsSettled : List (List ℕ) → List (List ℕ) → List ℕ → Type 0
  IsSettled found blown s = IsExcluded Has s ⊎ IsAbove found s ⊎ IsAbove blown s

  -- the sets that were passed are settled, and those that were found are minimal
  pub record IsWalked (passed found blown : List (List ℕ)) : Type 0 where
    pub settled : (s : List ℕ) → In s passed → IsSettled found blown s
    pub minimal : (s : List ℕ) → In s found → IsMinimal Has s

-- The steps of the walk over the sets of at most n places, at the set of place i, and its end.
pub record WalkSteps (n : ℕ) (Has : List ℕ → Type 0) : Type 0 where
  pub skipped : (i : ℕ) (s : List ℕ) (found blown : List (List ℕ)) → slice_get (chosen_up_to n n) i ≡ Some s
      → IsWalked Has (take i (chosen_up_to n n)) found blown → IsAbove found s ⊎ IsAbove blown s → IsWalked Has (take (suc i) (chosen_up_to n n)) found blown
  pub refuted : (i : ℕ) (s : List ℕ) (found blown : List (List ℕ)) → slice_get (chosen_up_to n n) i ≡ Some s
      → IsWalked Has (take i (chosen_up_to n n)) found blown → IsExcluded Has s → IsWalked Has (take (suc i) (chosen_up_to n n)) found blown
  pub given_up : (i : ℕ) (s : List ℕ) (found blown : List (List ℕ)) → slice_get (chosen_up_to n n) i ≡ Some s
      → IsWalked Has (take i (chosen_up_to n n)) found blown → IsWalked Has (take (suc i) (chosen_up_to n n)) found (blown ++ s ∷ [])
  -- a mapping whose support u is part of the set has exactly that set, which is minimal
  pub mapped : (i : ℕ) (s u : List ℕ) (found blown : List (List ℕ)) → slice_get (chosen_up_to n n) i ≡ Some s
      → IsWalked Has (take i (chosen_up_to n n)) found blown → (IsAbove found s → ⊥) → (IsAbove blown s → ⊥) → is_part u s ≡ true → Has u
      → (u ≡ s) × IsWalked Has (take (suc i) (chosen_up_to n n)) (found ++ s ∷ []) blown
  pub complete : (found blown : List (List ℕ)) → IsWalked Has (chosen_up_to n n) found blown → FindsMinimal Has found blown
  -- and whatever is had has a found set as a part, or one that was given up
  pub within : (found blown : List (List ℕ)) → IsWalked Has (chosen_up_to n n) found blown → (s : List ℕ) → Has s → IsAbove found s ⊎ IsAbove blown s
