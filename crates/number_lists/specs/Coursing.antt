-- Private.
-- The course of a search as the code keeps it. Nothing here has to be believed.
use Rattle.std.specs.Prelude.{◌≡◌, ◌⊎◌, ◌<◌, ◌≤◌, ◌++◌, ℕ, suc, ℤ, pos, Bool, true, false, not, List, [], ◌∷◌, drop, filter, length, map, replicate, slice_get, slice_set, take, Option, None, Some}
use Rattle.std.specs.List.{AllByRecursion, list_any}
use Rattle.level_systems.specs.Subsequences.{AreOnce}
use Rattle.linear_rows.specs.Members.{In}
use Rattle.linear_rows.specs.Replacing.{row_fits}
use Rattle.termination_model.specs.columns.ColumnClaims.{Mapping}
use Rattle.transitions.specs.StuckSets.{Feature, number_of}
use Rattle.transitions.specs.Transitions.{Descends, Transition}
use Rattle.transitions.specs.Turns.{HasWidths, IsRefutedTurn, RefutedTurn, Turn, group_of, unmarked}
use Rattle.number_turns.specs.Recalled.{recalled, spelled}
use Rattle.number_turns.specs.Turning.{IsFound, IsRefuted}
use Rattle.number_turns.specs.declared.feature.Feature.{Feature as HeldFeature}
use Rattle.number_turns.specs.declared.found.Found.{Found}
use Rattle.number_turns.specs.declared.transition.Transition.{Transition as Held}
use Rattle.number_lists.specs.Features.{AreColumnsOnce, lacks}
use Rattle.number_lists.specs.FoundLists.{IsTurnBlown, Leave, all_marks}
use Rattle.number_lists.specs.Lists.{AreGroupsOf, AreNeeded, HavePlaces, IsLong, mappings_of, recalled_mapping}
use Rattle.number_lists.specs.Tracking.{AreShownBy, AreTracked, ShownBy, SomeLeft, after_turn, after_turns, staying, with_turn}
use Rattle.number_lists.specs.declared.course.Course.{Course}
use Rattle.number_lists.specs.declared.course.Leaving.{Leaving}
use Rattle.number_lists.specs.declared.course.Leaving.TheVariants.{All as LeaveAll, One as LeaveOne}
use Rattle.number_lists.specs.declared.course.Made.{Made}
use Rattle.number_lists.specs.declared.course.Next.{Next}
use Rattle.number_lists.specs.declared.course.Next.TheVariants as next
use Rattle.number_lists.specs.declared.course.Step.{Step}
use Rattle.number_lists.specs.declared.course.Step.TheVariants as step
use Rattle.number_lists.specs.declared.course.Within.{Within}
use Rattle.number_lists.specs.declared.course.Within.TheVariants as within
use Rattle.number_lists.specs.declared.group.Group.{Group as HeldGroup}
use Rattle.number_lists.specs.declared.mapping.Mapping.{Mapping as HeldMapping}
use Rattle.number_lists.specs.declared.measure_list.MeasureList.{MeasureList}
use Rattle.number_lists.specs.declared.place.Place.{Place}

-- the numbers that none of these transitions lacks
abbrev pub free : List Feature → List Transition → List Feature
free fs τs = filter (λ f. not (list_any (λ τ. lacks τ f) τs)) fs

-- a mapping with some of these numbers
pub record IsMappingOver (fs : List Feature) (m : HeldMapping) : Type 0 where
  pub among : (f : Feature) → In f (map spelled m.features) → In f fs
  pub long : length m.features ≡ length m.numbers
  pub fit : row_fits m.numbers ≡ true
  pub once : AreColumnsOnce fs → AreColumnsOnce (map spelled m.features)
  pub sole : AreOnce fs → AreOnce (map spelled m.features)

-- a mapping is 0 at all other numbers
abbrev pub IsOver : List Feature → Mapping → Type 0
IsOver fs l = (f : Feature) → (In f fs → ⊥) → number_of l f ≡ pos 0

-- no mapping falls at all of these transitions, or that is not known
abbrev pub CannotLeave : List Feature → List Transition → Type 0
CannotLeave fs τs = IsTurnBlown fs τs (all_marks τs) ⊎ ((ms : List ℤ) × IsRefuted fs τs (all_marks τs) ms)

-- the turns of transitions with one of them marked
abbrev pub others_at : List Transition → ℕ → List Transition
others_at rest place = take place rest ++ drop (suc place) rest

pub record IsBlownAt (fs : List Feature) (rest : List Transition) : Type 0 where
  pub place : ℕ
  pub first : Transition
  pub marked : slice_get rest place ≡ Some first
  pub blown : IsTurnBlown fs (first ∷ others_at rest place) (true ∷ [])

-- the turns of the first of the transitions are refuted, and these are their groups
pub record AreRefuted (fs : List Feature) (τs : List Held) (rest these : List Transition) (hs : List HeldGroup) : Type 0 where
  pub turns : List RefutedTurn
  pub are : AllByRecursion (IsRefutedTurn fs rest) turns
  pub firsts : map (λ (r : RefutedTurn). r.first) turns ≡ these
  pub groups : AreGroupsOf (map recalled τs) hs (map (group_of fs) turns)

abbrev pub rest_of : List Held → List Bool → List Transition
rest_of τs gs = unmarked (map recalled τs) gs

-- a transition leaves that is not gone
abbrev pub IsHere : List Held → List Bool → Leaving → Type 0
IsHere τs gs LeaveAll = Unit {0}
IsHere τs gs (LeaveOne i) = (first : Held) × (slice_get τs i ≡ Some first) × (slice_get gs i ≡ Some false)

-- the turn of the transition at a place, which leaves before the others, shows this
pub record IsMadeAt (width : ℕ → ℕ) (τs : List Held) (gs : List Bool) (i : ℕ) (first : Held) (m : Made) : Type 0 where
  pub shown : ShownBy true (recalled_mapping width m.mapping) (recalled first) m.multipliers
  pub others : AreShownBy false (recalled_mapping width m.mapping) (rest_of τs (slice_set gs i true)) (after_turn true (length first.rows.list) m.multipliers)

abbrev pub IsLeaving : (ℕ → ℕ) → List Held → List Bool → Made → Leaving → Type 0
IsLeaving width τs gs m LeaveAll = AreShownBy true (recalled_mapping width m.mapping) (rest_of τs gs) m.multipliers
IsLeaving width τs gs m (LeaveOne i) = (first : Held) → slice_get τs i ≡ Some first → IsMadeAt width τs gs i first m

-- a turn that is made
pub record IsMade (fs : List Feature) (τs : List Held) (gs : List Bool) (m : Made) : Type 0 where
  pub over : IsMappingOver fs m.mapping
  pub here : IsHere τs gs m.leaving
  pub shown : (width : ℕ → ℕ) → AllByRecursion (HasWidths width) (map recalled τs) → IsLeaving width τs gs m m.leaving

abbrev pub FailsBefore : List Feature → List Transition → Leaving → Type 0
FailsBefore fs rest LeaveAll = Unit {0}
FailsBefore fs rest (LeaveOne i) = CannotLeave (free fs rest) rest

-- what comes of a turn for the transitions that remain
abbrev pub IsStep : List Feature → List Held → List Bool → Step → Type 0
IsStep fs τs gs (step.Made m) = IsMade fs τs gs m × FailsBefore fs (rest_of τs gs) m.leaving
IsStep fs τs gs (step.Refuted hs) = AreRefuted (free fs (rest_of τs gs)) τs (rest_of τs gs) (rest_of τs gs) hs × CannotLeave (free fs (rest_of τs gs)) (rest_of τs gs)
IsStep fs τs gs step.Blown = IsBlownAt (free fs (rest_of τs gs)) (rest_of τs gs) × CannotLeave (free fs (rest_of τs gs)) (rest_of τs gs)

-- ---- as the code makes turns
abbrev pub made_of : List HeldFeature → Leaving → Found → Made
made_of features leaving f = record { leaving = leaving; mapping = record { features = features; numbers = f.numbers }; multipliers = f.multipliers }

abbrev pub IsAllMade : List HeldFeature → List Transition → Option Made → Type 0
IsAllMade features rest None = CannotLeave (map spelled features) rest
IsAllMade features rest (Some m) = (f : Found) × IsFound (map spelled features) rest (all_marks rest) f × (m ≡ made_of features LeaveAll f)

pub record IsOneMade (features : List HeldFeature) (τs : List Held) (gs : List Bool) (m : Made) : Type 0 where
  pub place : ℕ
  pub first : Held
  pub there : slice_get τs place ≡ Some first
  pub here : slice_get gs place ≡ Some false
  pub found : Found
  pub is : IsFound (map spelled features) (recalled first ∷ rest_of τs (slice_set gs place true)) (true ∷ []) found
  pub made : m ≡ made_of features (LeaveOne place) found

-- the turns of those of the first i transitions that are not gone are refuted
pub record SomeRefuted (fs : List Feature) (τs : List Held) (gs : List Bool) (i : ℕ) (hs : List HeldGroup) : Type 0 where
  pub these : List Transition
  pub are : AreRefuted fs τs (rest_of τs gs) these hs
  pub seen : these ++ rest_of (drop i τs) (drop i gs) ≡ rest_of τs gs

abbrev pub IsSomeStep : List HeldFeature → List Held → List Bool → Step → Type 0
IsSomeStep features τs gs (step.Made m) = IsOneMade features τs gs m
IsSomeStep features τs gs (step.Refuted hs) = AreRefuted (map spelled features) τs (rest_of τs gs) (rest_of τs gs) hs
IsSomeStep features τs gs step.Blown = IsBlownAt (map spelled features) (rest_of τs gs)

-- a turn was added, in which all leave, or one
abbrev pub HaveLeft : List Held → List ℤ → Course → Course → Leaving → Type 0
HaveLeft τs zs old new LeaveAll = (new.gone.items ≡ replicate (length τs) true) × (new.places.items ≡ after_turns true τs old.gone.items zs old.places.items)
HaveLeft τs zs old new (LeaveOne i) =
    (new.gone.items ≡ slice_set old.gone.items i true)
    × ((τ : Held) (p : Place) → slice_get τs i ≡ Some τ → slice_get old.places.items i ≡ Some p
    → new.places.items ≡ after_turns false τs (slice_set old.gone.items i true) (after_turn true (length τ.rows.list) zs) (slice_set old.places.items i (with_turn true (length τ.rows.list) zs p)))

pub record IsAdvanced (τs : List Held) (m : Made) (old new : Course) : Type 0 where
  pub mappings : new.mappings ≡ old.mappings ++ m.mapping ∷ []
  pub left : HaveLeft τs m.multipliers old new m.leaving

-- a turn takes a place, where it is of one transition
abbrev pub IsPlaced : List Held → Leaving → Type 0
IsPlaced τs LeaveAll = Unit {0}
IsPlaced τs (LeaveOne i) = i < length τs

-- turns with these mappings leave the transitions that remain
pub record HasTurns (fs : List Feature) (τs rest : List Transition) : Type 0 where
  pub turns : List Turn
  pub leave : Leave τs turns rest
  pub over : AllByRecursion (λ (u : Turn). IsOver fs u.mapping) turns

-- what is so where each member has so many columns
pub record IsCourseFor (width : ℕ → ℕ) (fs : List Feature) (τs : List Held) (course : Course) : Type 0 where
  pub tracked : AreTracked (map (recalled_mapping width) course.mappings) τs course.gone.items course.places.items
  pub leave : (i : ℕ) → i < length course.mappings → SomeLeft i course.gone.items course.places.items
  pub turns : HasTurns fs (map recalled τs) (rest_of τs course.gone.items)

-- how far the search has come: no turn was made, or all left in the first, or all could not
abbrev pub HasBegun : List Feature → List Held → Course → Type 0
HasBegun fs τs course =
    ((course.mappings ≡ []) × (rest_of τs course.gone.items ≡ map recalled τs))
    ⊎ ((length course.mappings ≤ 1) × (rest_of τs course.gone.items ≡ []))
    ⊎ CannotLeave (free fs (map recalled τs)) (map recalled τs)

-- each transition has its place, and turns have left the transitions that remain
pub record IsCourse (fs : List Feature) (τs : List Held) (course : Course) : Type 0 where
  pub gone : length course.gone.items ≡ length τs
  pub places : length course.places.items ≡ length τs
  pub mappings : AllByRecursion (IsMappingOver fs) course.mappings
  pub begun : HasBegun fs τs course
  pub for : (width : ℕ → ℕ) → AllByRecursion (HasWidths width) (map recalled τs) → IsCourseFor width fs τs course

-- how the search goes on from the course that it has now
abbrev pub IsNext : List Feature → List Held → Course → Course → Next → Type 0
IsNext fs τs old new next.More = staying new.gone.items < staying old.gone.items
IsNext fs τs old new next.Done = rest_of τs new.gone.items ≡ []
IsNext fs τs old new (next.Refuted hs) =
    (1 ≤ length (rest_of τs new.gone.items)) × AreRefuted (free fs (rest_of τs new.gone.items)) τs (rest_of τs new.gone.items) (rest_of τs new.gone.items) hs
IsNext fs τs old new next.Blown = IsBlownAt (free fs (rest_of τs new.gone.items)) (rest_of τs new.gone.items) × CannotLeave (free fs (map recalled τs)) (map recalled τs)

-- ---- the end of a search
-- a list over these numbers that descends; of two mappings or more only where none falls at all transitions
pub record IsListFor (width : ℕ → ℕ) (fs : List Feature) (τs : List Transition) (l : MeasureList) : Type 0 where
  pub places : HavePlaces (mappings_of width l) τs l.places
  pub needed : AreNeeded l
  pub descends : Descends τs (mappings_of width l)

pub record IsListOver (fs : List Feature) (τs : List Held) (l : MeasureList) : Type 0 where
  pub some : 1 ≤ length l.mappings
  pub mappings : AllByRecursion (IsMappingOver fs) l.mappings
  pub chosen : IsLong l → CannotLeave (free fs (map recalled τs)) (map recalled τs)
  pub for : (width : ℕ → ℕ) → AllByRecursion (HasWidths width) (map recalled τs) → IsListFor width fs (map recalled τs) l

-- turns leave transitions that cannot leave
pub record AreStuckOver (fs : List Feature) (τs : List Held) (hs : List HeldGroup) : Type 0 where
  pub gone : List Bool
  pub some : 1 ≤ length (rest_of τs gone)
  pub refuted : AreRefuted (free fs (rest_of τs gone)) τs (rest_of τs gone) (rest_of τs gone) hs

pub record IsGivenUpOver (fs : List Feature) (τs : List Held) : Type 0 where
  pub gone : List Bool
  pub blown : IsBlownAt (free fs (rest_of τs gone)) (rest_of τs gone)
  pub chosen : CannotLeave (free fs (map recalled τs)) (map recalled τs)
  pub turns : (width : ℕ → ℕ) → AllByRecursion (HasWidths width) (map recalled τs) → HasTurns fs (map recalled τs) (rest_of τs gone)

abbrev pub IsEnded : List Feature → List Held → Within → Type 0
IsEnded fs τs (within.List l) = IsListOver fs τs l
IsEnded fs τs (within.Nothing hs) = AreStuckOver fs τs hs
IsEnded fs τs within.GivenUp = IsGivenUpOver fs τs
