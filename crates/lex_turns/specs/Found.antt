-- Private.
-- What the search for a list at a set of positions answers. Nothing here has to be believed.
use Rattle.std.specs.Prelude.{◌≡◌, ℕ, ℤ, true, List}
use Rattle.call_components.specs.Partition.{Partition}
use Rattle.cti_terms.specs.Listing.{Listing}
use Rattle.cti_terms.specs.Tree.{Tree}
use Rattle.termination_model.specs.mappings.ComponentViews.{positions_in}
use Rattle.linear_rows.specs.Members.{In}
use Rattle.termination_model.specs.grounds.Minimal.{IsExcluded}
use Rattle.termination_model.specs.grounds.Modes.{is_part}
use Rattle.level_systems.specs.declared.component.Component.{Component}
use Rattle.level_systems.specs.declared.position.Position.{Position}
use Rattle.lex_turns.specs.Coursing.{IsStopped}
use Rattle.lex_turns.specs.FoundLists.{HasList, IsDescendingList, IsGivenUpAt, IsLong, IsUnmapped, support_of_list}
use Rattle.lex_turns.specs.declared.course.Ended.{Ended}
use Rattle.lex_turns.specs.declared.course.Ended.TheVariants as ended
use Rattle.lex_turns.specs.declared.measure_list.MeasureList.{MeasureList}
use Rattle.lex_turns.specs.declared.within.Within.{Within}
use Rattle.lex_turns.specs.declared.within.Within.TheVariants as within

module _ (expression : ℕ → Tree → List ℤ) (p : Listing) (comps : Partition) (rows : ℕ → List (List ℤ)) (c : ℕ) where
  -- a list that descends, whose support is part of a set
  pub record IsListIn (s : List ℕ) (l : MeasureList) : Type 0 where
    pub list : IsDescendingList expression p comps rows c l
    pub part : is_part (support_of_list (positions_in p comps c) l) s ≡ true
    pub has : HasList expression p comps rows c (support_of_list (positions_in p comps c) l)

  -- no list that descends has a support that is part of a set
  abbrev pub IsVoid : List ℕ → Type 0
  IsVoid s = IsExcluded (HasList expression p comps rows c) s

  abbrev pub AreVoid : List (List ℕ) → Type 0
  AreVoid sets = (s : List ℕ) → In s sets → IsVoid s

  abbrev pub IsWithin : List ℕ → Within → Type 0
  IsWithin s (within.List l) = IsListIn s l
  IsWithin s within.Nothing = IsVoid s
  IsWithin s within.GivenUp = IsGivenUpAt expression p comps rows c s

  -- the same, with the calls for which no turn can be made
  abbrev pub IsEndedAt : Component → List Position → List ℕ → Ended → Type 0
  IsEndedAt x at s (ended.List l) = IsListIn s l
  IsEndedAt x at s (ended.Refuted gone) = IsStopped expression p comps rows c x at gone.items × IsVoid s
  IsEndedAt x at s ended.GivenUp = IsGivenUpAt expression p comps rows c s

  -- a long list is found, and the search is given up, only where no mapping is
  abbrev pub IsChosen : List ℕ → Within → Type 0
  IsChosen s (within.List l) = IsLong l → IsUnmapped expression p comps rows c s
  IsChosen s within.Nothing = Unit {0}
  IsChosen s within.GivenUp = IsUnmapped expression p comps rows c s
