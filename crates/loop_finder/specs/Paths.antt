-- Private.
-- The goals along a derivation, and where its end is a cycle. Nothing here has to be believed.
use Rattle.std.specs.Prelude.{◌≡◌, ℕ, suc, ◌≤◌, ◌<◌, List, take, length, slice_get, Some}
use Rattle.std.specs.List.{AllByRecursion}
use Rattle.cti_terms.specs.declared.derivation.Goal.{Goal}
use Rattle.cti_terms.specs.Listing.{Listing}
use Rattle.cti_terms.specs.Lifts.{IsMoreGeneral, left_after}
use Rattle.loop_finder.specs.Loop.{FirstIs}

-- the goals that the beginnings of the numbers leave of a goal, the empty beginning first
pub record IsPath (p : Listing) (g : Goal) (numbers : List ℕ) (goals : List Goal) : Type 0 where
  pub clauses : AllByRecursion (λ (k : ℕ). 1 ≤ k) numbers
  pub count : length goals ≡ suc (length numbers)
  pub each : (i : ℕ) (h : Goal) → slice_get goals i ≡ Some h → left_after p g (take i numbers) ≡ Some h

-- a goal that is followed by goals with no fewer atoms, the last of which has a first atom that is more general than
-- its own
pub record IsCycleAt (goals : List Goal) (i : ℕ) : Type 0 where
  pub before : Goal
  pub end : ℕ
  pub last : Goal
  pub at : slice_get goals i ≡ Some before
  pub count : length goals ≡ suc end
  pub ends : slice_get goals end ≡ Some last
  pub inner : i < end
  pub kept : (j : ℕ) (h : Goal) → i < j → slice_get goals j ≡ Some h → length before.atoms ≤ length h.atoms
  pub back : FirstIs (λ a. FirstIs (λ b. IsMoreGeneral b a) last.atoms) before.atoms
