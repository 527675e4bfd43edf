-- Private.
-- The state of the search for components. Nothing here has to be believed.
--
-- The open predicates are a list that is cut into segments. From each of them there is a way to each later one,
-- and the members of a segment reach each other as far as the calls that were followed say. What is closed calls
-- only what is closed, and has its component's number.
use Rattle.std.specs.Prelude.{◌≡◌, ℕ, ◌+◌, ◌≤◌, ◌<◌, ◌^◌, ◌↔◌, ◌⊎◌, List, [], ◌∷◌, length, reverse, if◌then◌else◌, nat_lt, slice_get, Some}
use Rattle.std.specs.List.{AllByRecursion}
use Rattle.call_components.specs.Calls.{Reaches}
use Rattle.call_components.specs.Table.{AreWithin, HasCall}
use Rattle.call_components.specs.Marked.{mark_of, IsSeen, IsSettled, unseen}
use Rattle.call_components.specs.declared.marks.Mark.{Mark}
use Rattle.call_components.specs.declared.marks.Mark.TheVariants.{Open, Closed}
use Rattle.call_components.specs.declared.search.Segment.{Segment}
use Rattle.call_components.specs.declared.search.Search.{Search}

module _ (calls : ℕ → ℕ → Type 0) (mark : ℕ → Mark) where
  -- an open predicate from the place f on and below u calls b
  abbrev pub HasCaller : ℕ → ℕ → ℕ → Type 0
  HasCaller f u b = (a : ℕ) × (i : ℕ) × (mark a ≡ Open i) × (f ≤ i) × (i < u) × calls a b

  -- the places below u are a segment, and so are the calls that wait below v
  pub record IsSegment (waiting : List ℕ) (s : Segment) (u v : ℕ) : Type 0 where
    pub first : s.first < u
    pub start : s.waiting ≤ v
    pub root : ℕ
    pub at : mark root ≡ Open s.first
    pub strong : (i a : ℕ) → s.first ≤ i → i < u → mark a ≡ Open i → Reaches calls a root
    pub called : (x b : ℕ) → s.waiting ≤ x → x < v → slice_get waiting x ≡ Some b → HasCaller s.first u b

  -- the places below u are cut into these segments, the last one first
  abbrev pub AreSegments : List ℕ → ℕ → ℕ → List Segment → Type 0
  AreSegments waiting u v [] = (u ≡ 0) × (v ≡ 0)
  AreSegments waiting u v (s ∷ ss) = IsSegment waiting s u v × AreSegments waiting s.first s.waiting ss

  -- each call of a predicate from this segment on was followed, but for those that wait or are being followed
  abbrev pub IsFollowed : (ℕ → Type 0) → List ℕ → Segment → Type 0
  IsFollowed todo waiting s = (a b i : ℕ) → mark a ≡ Open i → s.first ≤ i → calls a b
      → todo b ⊎ (((x : ℕ) × (s.waiting ≤ x) × (slice_get waiting x ≡ Some b)) ⊎ IsSettled s.first (mark b))

  -- the closed predicates have the numbers of their components, which are those below count
  pub record AreClosed (count : ℕ) : Type 0 where
    pub callees : (a b i : ℕ) → mark a ≡ Closed i → calls a b → (j : ℕ) × (mark b ≡ Closed j) × (j ≤ i)
    pub together : (a b i : ℕ) → mark a ≡ Closed i → mark b ≡ Closed i → Reaches calls a b
    pub below : (a i : ℕ) → mark a ≡ Closed i → i < count
    pub used : (i : ℕ) → i < count → (a : ℕ) × (mark a ≡ Closed i)

  -- a state of the search, in which the calls of `todo` are being followed
  pub record IsState (todo : ℕ → Type 0) (row waiting : List ℕ) (segments : List Segment) (count : ℕ) : Type 0 where
    pub places : (a i : ℕ) → (mark a ≡ Open i) ↔ (slice_get row i ≡ Some a)
    pub earlier : (a b i j : ℕ) → mark a ≡ Open i → mark b ≡ Open j → i ≤ j → Reaches calls a b
    pub cut : AreSegments waiting (length row) (length waiting) segments
    pub followed : AllByRecursion (IsFollowed todo waiting) segments
    pub closed : AreClosed count

-- the segments, the last one first, without those that begin after this place
abbrev pub joined : ℕ → List Segment → List Segment
joined place [] = []
joined place (s ∷ ss) = if nat_lt place s.first then joined place ss else s ∷ ss

-- what every state of the search keeps
pub record IsSearch (rows : List (List ℕ)) (todo : ℕ → Type 0) (marks : List Mark) (row waiting : List ℕ) (segments : List Segment) (count : ℕ) : Type 0 where
  pub each : length marks ≡ length rows
  pub within : AreWithin (length rows) rows
  pub few : length rows < 2 ^ 32
  pub room : count + length segments + unseen (λ _. 1) marks rows ≤ length rows
  pub state : IsState (HasCall rows) (mark_of marks) todo row waiting segments count

-- no call is being followed
abbrev pub IsIdle : List (List ℕ) → Search → Type 0
IsIdle rows s = IsSearch rows (λ _. ⊥) s.marks s.open s.waiting (reverse s.segments.items) s.count

-- every open predicate reaches b
abbrev pub Lead : List (List ℕ) → List Mark → ℕ → Type 0
Lead rows marks b = (a i : ℕ) → mark_of marks a ≡ Open i → Reaches (HasCall rows) a b

-- a call to b is being followed
pub record IsFollowing (rows : List (List ℕ)) (b : ℕ) (s : Search) : Type 0 where
  pub search : IsSearch rows (λ a. a ≡ b) s.marks s.open s.waiting (reverse s.segments.items) s.count
  pub lead : Lead rows s.marks b

-- what was seen stays seen
abbrev pub KeepsSeen : List Mark → List Mark → Type 0
KeepsSeen old new = (a : ℕ) → IsSeen (mark_of old a) → IsSeen (mark_of new a)

-- how many steps are left at most: to follow what waits, to close what is open, and to open and follow the rest
abbrev pub steps : List (List ℕ) → List Mark → List ℕ → List Segment → ℕ
steps rows marks waiting segments = length waiting + length segments + unseen (λ row. 1 + length row) marks rows

abbrev pub work : List (List ℕ) → Search → ℕ
work rows s = steps rows s.marks s.waiting (reverse s.segments.items)

-- each predicate has a number, below count, and each number is used
pub record AreNumbers (rows : List (List ℕ)) (numbers : List ℕ) (count : ℕ) : Type 0 where
  pub each : length numbers ≡ length rows
  pub few : count < 2 ^ 32
  pub below : (a i : ℕ) → slice_get numbers a ≡ Some i → i < count
  pub used : (i : ℕ) → i < count → (a : ℕ) × (slice_get numbers a ≡ Some i)
  pub order : (a b i : ℕ) → slice_get numbers a ≡ Some i → HasCall rows a b → (j : ℕ) × (slice_get numbers b ≡ Some j) × (j ≤ i)
  pub together : (a b i : ℕ) → slice_get numbers a ≡ Some i → slice_get numbers b ≡ Some i → Reaches (HasCall rows) a b
