-- Private.
-- What a walk over sets of positions keeps, and what it leaves. Nothing here has to be believed.
use Rattle.std.specs.Prelude.{◌≡◌, ◌++◌, ℕ, ℤ, Bool, true, List, length, map, take}
use Rattle.std.specs.List.{AllByRecursion}
use Rattle.cti_terms.specs.Listing.{Listing}
use Rattle.cti_terms.specs.Tree.{Tree}
use Rattle.call_components.specs.Partition.{Partition}
use Rattle.termination_model.specs.mappings.ComponentViews.{HasSupportIn, positions_in}
use Rattle.linear_rows.specs.Members.{In}
use Rattle.termination_model.specs.grounds.Minimal.{IsAbove}
use Rattle.termination_model.specs.grounds.Modes.{chosen_up_to, is_part}
use Rattle.level_systems.specs.Found.{IsBlownSet}
use Rattle.level_systems.specs.Mappings.{support_of}
use Rattle.level_systems.specs.Searched.{IsDecreasing}
use Rattle.level_systems.specs.Subsequences.{AreOnce, IsSubsequence}
use Rattle.level_dual.specs.Walk.{IsWalked}
use Rattle.level_dual.specs.declared.walked.Walked.{Walked}

module _ (expression : ℕ → Tree → List ℤ) (p : Listing) (comps : Partition) (rows : ℕ → List (List ℤ)) (c : ℕ) where
  -- after the first i sets of n positions
  pub record IsWalkedTo (n i : ℕ) (w : Walked) : Type 0 where
    pub walked : IsWalked (HasSupportIn expression p comps rows c) (take i (chosen_up_to n n)) w.found w.blown
    pub supports : map (support_of (positions_in p comps c)) w.mappings ≡ w.found
    pub mappings : AllByRecursion (IsDecreasing expression p comps rows c) w.mappings
    pub found_order : IsSubsequence w.found (take i (chosen_up_to n n))
    pub blown_order : IsSubsequence w.blown (take i (chosen_up_to n n))
    pub given_up : (s : List ℕ) → In s w.blown → IsBlownSet expression p comps rows c s
    pub once : AreOnce w.blown
    pub apart : (s : List ℕ) → In s w.blown → IsAbove w.found s → ⊥

  -- after all sets
  pub record IsAllWalked (w : Walked) : Type 0 where
    pub walked : IsWalked (HasSupportIn expression p comps rows c) (chosen_up_to (length (positions_in p comps c)) (length (positions_in p comps c))) w.found w.blown
    pub supports : map (support_of (positions_in p comps c)) w.mappings ≡ w.found
    pub mappings : AllByRecursion (IsDecreasing expression p comps rows c) w.mappings
    pub found_order : IsSubsequence w.found (chosen_up_to (length (positions_in p comps c)) (length (positions_in p comps c)))
    pub blown_order : IsSubsequence w.blown (chosen_up_to (length (positions_in p comps c)) (length (positions_in p comps c)))
    pub given_up : (s : List ℕ) → In s w.blown → IsBlownSet expression p comps rows c s
    pub once : AreOnce w.blown
    pub apart : (s : List ℕ) → In s w.blown → IsAbove w.found s → ⊥

-- the sets that were given up, and perhaps the full one, where it was given up and nothing was found
pub record IsCompleted (given_up none : Bool) (full : List ℕ) (blown sets : List (List ℕ)) : Type 0 where
  pub more : List (List ℕ)
  pub is : sets ≡ blown ++ more
  pub full_only : (t : List ℕ) → In t more → (given_up ≡ true) × (full ≡ t) × (none ≡ true)
  pub once : AreOnce blown → AreOnce sets
  pub there : given_up ≡ true → none ≡ true → (t : List ℕ) × In t sets × (is_part full t ≡ true)
