-- Private.
-- What a walk over sets of positions keeps, and what it leaves. Nothing here has to be believed.
use Rattle.std.specs.Prelude.{◌≡◌, ◌⊎◌, ℕ, ℤ, List, length, map}
use Rattle.std.specs.List.{AllByRecursion}
use Rattle.cti_terms.specs.Listing.{Listing}
use Rattle.cti_terms.specs.Tree.{Tree}
use Rattle.call_components.specs.Partition.{Partition}
use Rattle.linear_rows.specs.Members.{In}
use Rattle.termination_model.specs.mappings.ComponentViews.{positions_in, HasSupportIn}
use Rattle.termination_model.specs.grounds.Minimal.{IsAbove}
use Rattle.termination_model.specs.grounds.Modes.{chosen_up_to}
use Rattle.level_systems.specs.Found.{IsBlownSet}
use Rattle.level_systems.specs.Subsequences.{AreOnce, IsSubsequence}
use Rattle.level_dual.specs.Walk.{IsWalked}
use Rattle.lex_turns.specs.FoundLists.{HasList, IsDescendingList, IsLong, MayBeMissing, support_of_list}
use Rattle.lex_turns.specs.declared.measure_list.MeasureList.{MeasureList}
use Rattle.lex_turns.specs.declared.walked.Walked.{Walked}

module _ (expression : ℕ → Tree → List ℤ) (p : Listing) (comps : Partition) (rows : ℕ → List (List ℤ)) (c : ℕ) where
  abbrev pub own_support : MeasureList → List ℕ
  own_support l = support_of_list (positions_in p comps c) l

  -- a list is of one mapping where one decreases with its support
  abbrev pub IsSingle : MeasureList → Type 0
  IsSingle l = IsLong l → IsBlownSet expression p comps rows c (own_support l) ⊎ (HasSupportIn expression p comps rows c (own_support l) → ⊥)

  -- after some sets of all, which stand in this order
  pub record IsWalkedTo (order : List (List ℕ)) (w : Walked) : Type 0 where
    pub walked : IsWalked (HasList expression p comps rows c) order w.found w.blown
    pub supports : map own_support w.lists ≡ w.found
    pub lists : AllByRecursion (IsDescendingList expression p comps rows c) w.lists
    pub single : AllByRecursion IsSingle w.lists
    pub found_order : IsSubsequence w.found order
    pub blown_order : IsSubsequence w.blown order
    pub given_up : (s : List ℕ) → In s w.blown → MayBeMissing expression p comps rows c s
    pub once : AreOnce w.blown
    pub apart : (s : List ℕ) → In s w.blown → IsAbove w.found s → ⊥

  -- after all sets
  abbrev pub IsAllWalked : Walked → Type 0
  IsAllWalked w = IsWalkedTo (chosen_up_to (length (positions_in p comps c)) (length (positions_in p comps c))) w
