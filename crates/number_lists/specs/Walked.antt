-- Private.
-- What a walk over sets of positions keeps, and what it leaves. Nothing here has to be believed.
use Rattle.std.specs.Prelude.{◌≡◌, ℕ, List, length, map}
use Rattle.transitions.specs.Transitions.{Transition}
use Rattle.number_lists.specs.declared.position.Position.{Position}
use Rattle.number_lists.specs.FoundLists.{HasList, IsDescendingList, IsSingle, MayBeMissing, support_of_list}
use Rattle.number_lists.specs.declared.walking.Walked.{Walked}
use Rattle.std.specs.List.{AllByRecursion}
use Rattle.linear_rows.specs.Members.{In}
use Rattle.termination_model.specs.grounds.Minimal.{IsAbove}
use Rattle.termination_model.specs.grounds.Modes.{chosen_up_to}
use Rattle.level_systems.specs.Subsequences.{AreOnce, IsSubsequence}
use Rattle.level_dual.specs.Walk.{IsWalked}
use Rattle.number_lists.specs.declared.measure_list.MeasureList.{MeasureList}

module _ (members : List ℕ) (positions : List Position) (τs : List Transition) (width : ℕ → ℕ) where
  abbrev pub own_support : MeasureList → List ℕ
  own_support l = support_of_list members positions τs width l

  -- after some sets of all, which stand in this order
  pub record IsWalkedTo (order : List (List ℕ)) (w : Walked) : Type 0 where
    pub walked : IsWalked (HasList members positions τs) order w.found w.blown
    pub supports : map own_support w.lists ≡ w.found
    pub lists : AllByRecursion (IsDescendingList members positions τs width) w.lists
    pub single : AllByRecursion (IsSingle members positions τs width) w.lists
    pub found_order : IsSubsequence w.found order
    pub blown_order : IsSubsequence w.blown order
    pub given_up : (s : List ℕ) → In s w.blown → MayBeMissing members positions τs s
    pub once : AreOnce w.blown
    pub apart : (s : List ℕ) → In s w.blown → IsAbove w.found s → ⊥

  -- after all sets
  abbrev pub IsAllWalked : Walked → Type 0
  IsAllWalked w = IsWalkedTo (chosen_up_to (length positions) (length positions)) w
