-- Private.
-- What the search for a list at a set of positions answers. Nothing here has to be believed.
use Rattle.std.specs.Prelude.{◌≡◌, ℕ, true, List}
use Rattle.linear_rows.specs.Members.{In}
use Rattle.termination_model.specs.grounds.Minimal.{IsExcluded}
use Rattle.termination_model.specs.grounds.Modes.{is_part}
use Rattle.transitions.specs.StuckSets.{Group, IsStuckAt}
use Rattle.transitions.specs.Transitions.{Transition}
use Rattle.number_lists.specs.Features.{is_picked, picked_from}
use Rattle.number_lists.specs.FoundLists.{HasList, IsDescendingList, IsGivenUpAt, IsUnmapped, support_of_list}
use Rattle.number_lists.specs.Lists.{AreGroupsOf, IsLong}
use Rattle.number_lists.specs.declared.course.Within.{Within}
use Rattle.number_lists.specs.declared.course.Within.TheVariants as within
use Rattle.number_lists.specs.declared.group.Group.{Group as HeldGroup}
use Rattle.number_lists.specs.declared.measure_list.MeasureList.{MeasureList}
use Rattle.number_lists.specs.declared.position.Position.{Position}

module _ (members : List ℕ) (positions : List Position) (τs : List Transition) (width : ℕ → ℕ) where
  -- a list that descends, whose support is part of a set
  pub record IsListIn (s : List ℕ) (l : MeasureList) : Type 0 where
    pub list : IsDescendingList members positions τs width l
    pub part : is_part (support_of_list members positions τs width l) s ≡ true
    pub has : HasList members positions τs (support_of_list members positions τs width l)

  -- no list that descends has a support that is part of a set
  abbrev pub IsVoid : List ℕ → Type 0
  IsVoid s = IsExcluded (HasList members positions τs) s

  abbrev pub AreVoid : List (List ℕ) → Type 0
  AreVoid sets = (s : List ℕ) → In s sets → IsVoid s

  -- the groups of a stuck set at the positions of a set
  abbrev pub AreStuckIn : List ℕ → List HeldGroup → Type 0
  AreStuckIn s hs = (gs : List Group) × AreGroupsOf τs hs gs × IsStuckAt (is_picked (picked_from 1 positions s)) τs gs

  abbrev pub IsWithin : List ℕ → Within → Type 0
  IsWithin s (within.List l) = IsListIn s l
  IsWithin s (within.Nothing hs) = AreStuckIn s hs × IsVoid s
  IsWithin s within.GivenUp = IsGivenUpAt members positions τs s

  -- a long list is found, and the search is given up, only where no mapping is
  abbrev pub IsChosen : List ℕ → Within → Type 0
  IsChosen s (within.List l) = IsLong l → IsUnmapped members positions τs s
  IsChosen s (within.Nothing hs) = Unit {0}
  IsChosen s within.GivenUp = IsUnmapped members positions τs s
