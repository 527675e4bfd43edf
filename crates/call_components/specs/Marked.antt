-- Private.
-- Marks of predicates in the search for components. Nothing here has to be believed.
use Rattle.std.specs.Prelude.{ℕ, ◌+◌, ◌≤◌, List, [], ◌∷◌, if◌then◌else◌, nat_le, slice_set, slice_index_or}
use Rattle.call_components.specs.declared.marks.Mark.{Mark}
use Rattle.call_components.specs.declared.marks.Mark.TheVariants.{Unseen, Open, Closed}

-- the mark of a predicate
abbrev pub mark_of : List Mark → ℕ → Mark
mark_of marks a = slice_index_or marks a Unseen

-- a predicate that was opened
abbrev pub IsSeen : Mark → Type 0
IsSeen Unseen = ⊥
IsSeen (Open i) = Unit {0}
IsSeen (Closed n) = Unit {0}

-- a predicate that has its number
abbrev pub IsClosed : Mark → Type 0
IsClosed Unseen = ⊥
IsClosed (Open i) = ⊥
IsClosed (Closed n) = Unit {0}

-- a predicate that is closed, or open at this place or later
abbrev pub IsSettled : ℕ → Mark → Type 0
IsSettled f Unseen = ⊥
IsSettled f (Open i) = f ≤ i
IsSettled f (Closed n) = Unit {0}

-- the sum of f over the rows of the predicates that were not opened
abbrev pub weight : (List ℕ → ℕ) → Mark → List ℕ → ℕ
weight f Unseen row = f row
weight f (Open i) row = 0
weight f (Closed n) row = 0

abbrev pub unseen : (List ℕ → ℕ) → List Mark → List (List ℕ) → ℕ
unseen f [] rows = 0
unseen f (m ∷ ms) [] = 0
unseen f (m ∷ ms) (row ∷ rows) = weight f m row + unseen f ms rows

-- the marks where these predicates were closed with this number
abbrev pub closed_by : List ℕ → ℕ → List Mark → List Mark
closed_by [] n marks = marks
closed_by (a ∷ preds) n marks = closed_by preds n (slice_set marks a (Closed n))

-- a mark where the open predicates from the place f on were closed with this number
abbrev pub closed_from : ℕ → ℕ → Mark → Mark
closed_from f n Unseen = Unseen
closed_from f n (Open i) = if nat_le f i then Closed n else Open i
closed_from f n (Closed k) = Closed k
