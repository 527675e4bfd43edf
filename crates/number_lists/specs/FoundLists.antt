-- Private.
-- To believe, for the modes by measures of numbers.
-- What is found of the lists of transitions: one for each minimal support of a list that descends, or a stuck set, or
-- what was given up.
--
-- A mapping that decreases is a list of one.
--
-- To believe: all of this file, over `Descends` of `transitions`.
use Rattle.std.specs.Prelude.{◌≡◌, ◌≢◌, ◌↔◌, ◌⊎◌, ◌<◌, ◌≤◌, ℕ, suc, Bool, true, false, IsTrue, List, [], ◌∷◌, ◌++◌, map, take, drop, length, replicate, slice_get, None, Some}
use Rattle.std.specs.List.{AllByRecursion}
use Rattle.linear_rows.specs.Members.{In}
use Rattle.linear_rows.specs.Replacing.{row_fits}
use Rattle.linear_rows.specs.Solving.Solution.{Blown}
use Rattle.linear_rows.specs.Step.{columns}
use Rattle.termination_model.specs.columns.ColumnClaims.{Mapping}
use Rattle.termination_model.specs.grounds.Minimal.{IsAbove, IsExcluded, IsMinimal, IsSet}
use Rattle.termination_model.specs.grounds.Modes.{chosen_up_to, is_part}
use Rattle.level_systems.specs.Found.{without_number}
use Rattle.level_systems.specs.Subsequences.{AreOnce, IsSubsequence}
use Rattle.transitions.specs.StuckSets.{Feature, Group, IsStuckAt, IsWithin}
use Rattle.transitions.specs.Transitions.{Descends, Transition}
use Rattle.transitions.specs.Turns.{IsTurn, Turn, unmarked}
use Rattle.number_turns.specs.Recalled.{spelled}
use Rattle.number_turns.specs.Turning.{turn_solution}
use Rattle.number_lists.specs.Features.{AreColumnsOnce, features_at, features_of, is_picked, list_support_from, picked_from}
use Rattle.number_lists.specs.Lists.{AreGroupsOf, AreNeeded, HavePlaces, IsLong, mappings_of}
use Rattle.number_lists.specs.declared.found_lists.FoundLists.{FoundLists}
use Rattle.number_lists.specs.declared.group.Group.{Group as HeldGroup}
use Rattle.number_lists.specs.declared.mapping.Mapping.{Mapping as HeldMapping}
use Rattle.number_lists.specs.declared.measure_list.MeasureList.{MeasureList}
use Rattle.number_lists.specs.declared.position.Position.{Position}

-- elimination is blown on the template of a turn
abbrev pub IsTurnBlown : List Feature → List Transition → List Bool → Type 0
IsTurnBlown fs τs marks = (step : ℕ) × (wide : Bool) × (turn_solution fs τs marks ≡ Blown step wide)

-- turns, each over the transitions that the one before left, leave these
abbrev pub Leave : List Transition → List Turn → List Transition → Type 0
Leave τs [] rest = rest ≡ τs
Leave τs (u ∷ us) rest = IsTurn τs u.mapping u.marks × Leave (unmarked τs u.marks) us rest

-- a turn for all transitions
abbrev pub all_marks : List Transition → List Bool
all_marks τs = replicate (length τs) true

module _ (members : List ℕ) (positions : List Position) (τs : List Transition) where
  -- a list of mappings that descends has exactly this support
  pub record HasList (s : List ℕ) : Type 0 where
    pub list : List Mapping
    pub some : 1 ≤ length list
    pub within : AllByRecursion (IsWithin (is_picked positions)) list
    pub descends : Descends τs list
    pub is : list_support_from 1 positions list ≡ s

  -- a mapping that decreases has exactly this support
  pub record HasMapping (s : List ℕ) : Type 0 where
    pub mapping : Mapping
    pub within : IsWithin (is_picked positions) mapping
    pub descends : Descends τs (mapping ∷ [])
    pub is : list_support_from 1 positions (mapping ∷ []) ≡ s

  -- the search for a list at a set of positions is given up: of the transitions that some turns within the set leave,
  -- the turn with one of them marked is blown
  pub record IsGivenUpAt (s : List ℕ) : Type 0 where
    pub turns : List Turn
    pub rest : List Transition
    pub left : Leave τs turns rest
    pub within : AllByRecursion (λ (u : Turn). IsWithin (is_picked (picked_from 1 positions s)) u.mapping) turns
    pub place : ℕ
    pub first : Transition
    pub marked : slice_get rest place ≡ Some first
    pub blown : IsTurnBlown (features_at members positions s rest) (first ∷ (take place rest ++ drop (suc place) rest)) (true ∷ [])

  -- no mapping decreases at a set, or that is not known, since the turn for all transitions is blown
  abbrev pub IsUnmapped : List ℕ → Type 0
  IsUnmapped s = IsTurnBlown (features_at members positions s τs) τs (all_marks τs) ⊎ IsExcluded HasMapping s

  -- a list may be missing: no mapping was found at the set, and the search for a list was given up
  abbrev pub MayBeMissing : List ℕ → Type 0
  MayBeMissing s = IsGivenUpAt s × IsUnmapped s

  -- a stuck set, which shows that no list descends
  abbrev pub IsStuckSetOf : List HeldGroup → Type 0
  IsStuckSetOf hs = (gs : List Group) × AreGroupsOf τs hs gs × IsStuckAt (is_picked positions) τs gs

  abbrev pub count : ℕ
  count = length positions

  abbrev pub full : List ℕ
  full = columns 1 count

  module _ (width : ℕ → ℕ) where
    abbrev pub support_of_list : MeasureList → List ℕ
    support_of_list l = list_support_from 1 positions (mappings_of width l)

    abbrev pub supports : FoundLists → List (List ℕ)
    supports f = map support_of_list f.lists

    -- a mapping has a number for each of its features, which are columns of positions or offsets of members
    pub record IsShaped (m : HeldMapping) : Type 0 where
      pub long : length m.features ≡ length m.numbers
      pub fit : row_fits m.numbers ≡ true
      pub once : AreColumnsOnce (map spelled m.features)
      -- and each offset, where no member is named twice
      pub sole : AreOnce members → AreOnce (map spelled m.features)
      pub inside : (f : Feature) → In f (map spelled m.features) → In f (features_of members positions) × (f.1 ≤ width f.0)

    -- a list that descends, with the place of each transition, in order
    pub record IsDescendingList (l : MeasureList) : Type 0 where
      pub some : 1 ≤ length l.mappings
      pub shaped : AllByRecursion IsShaped l.mappings
      pub within : AllByRecursion (IsWithin (is_picked positions)) (mappings_of width l)
      pub places : HavePlaces (mappings_of width l) τs l.places
      pub needed : AreNeeded l
      pub descends : Descends τs (mappings_of width l)

    -- a list of two or more only where no mapping is known to decrease with its support
    abbrev pub IsSingle : MeasureList → Type 0
    IsSingle l = IsLong l → IsTurnBlown (features_at members positions (support_of_list l) τs) τs (all_marks τs) ⊎ (HasMapping (support_of_list l) → ⊥)

    -- up to 12 positions: one list for each minimal support, in order; each list that descends has one of them within
    -- its support, unless that is above one that was given up; and a list is of one mapping where one decreases with
    -- its support
    pub record AreSmallLists (f : FoundLists) : Type 0 where
      pub minimal : (s : List ℕ) → In s (supports f) → IsMinimal HasList s
      pub within : (s : List ℕ) → HasList s → IsAbove (supports f) s ⊎ IsAbove f.blown s
      pub order : IsSubsequence (supports f) (chosen_up_to count count)
      pub single : AllByRecursion IsSingle f.lists
      pub given_up : (s : List ℕ) → In s f.blown → MayBeMissing s

    -- none of the positions of a list can be left out, but where the search without it was given up
    abbrev pub IsWithoutSpare : List (List ℕ) → MeasureList → Type 0
    IsWithoutSpare blown l = (i : ℕ) → In i (support_of_list l)
        → In (without_number i (support_of_list l)) blown ⊎ IsExcluded HasList (without_number i (support_of_list l))

    -- a list of two or more only where no mapping was found at some set with all of its positions
    abbrev pub IsLongAtNeed : MeasureList → Type 0
    IsLongAtNeed l = IsLong l → (t : List ℕ) × (is_part (support_of_list l) t ≡ true) × IsUnmapped t

    -- more: one list at most, none of whose positions can be left out; or a stuck set; or the set of all positions was
    -- given up
    pub record AreLargeLists (f : FoundLists) : Type 0 where
      pub few : length f.lists ≤ 1
      pub single : AllByRecursion IsLongAtNeed f.lists
      pub spare : AllByRecursion (IsWithoutSpare f.blown) f.lists
      pub decided : (1 ≤ length f.lists) ⊎ (f.stuck ≢ None) ⊎ In full f.blown
      pub given_up : (s : List ℕ) → In s f.blown → MayBeMissing s
      -- where there is a list, each set that was given up is its support without one of its positions
      pub left_out : (s : List ℕ) → In s (supports f) → (t : List ℕ) → In t f.blown → (i : ℕ) × In i s × (t ≡ without_number i s)

    pub record AreFoundLists (f : FoundLists) : Type 0 where
      pub large : IsTrue f.large ↔ (12 < count)
      pub lists : AllByRecursion IsDescendingList f.lists
      pub small : f.large ≡ false → AreSmallLists f
      pub more : f.large ≡ true → AreLargeLists f
      -- a stuck set exactly where no list descends and the set of all positions was not given up
      pub stuck : (f.stuck ≢ None) ↔ (((s : List ℕ) → HasList s → ⊥) × (In full f.blown → ⊥))
      pub shown : (hs : List HeldGroup) → f.stuck ≡ Some hs → IsStuckSetOf hs
      -- what was given up are sets of positions, above no support that was found, and each stands once
      pub sets : (s : List ℕ) → In s f.blown → IsSet 1 (suc count) s
      pub once : AreOnce f.blown
      pub apart : (s : List ℕ) → In s f.blown → IsAbove (supports f) s → ⊥
