-- Private.
-- Tables of where the variables of a list occur. Nothing here has to be believed.
use Rattle.std.specs.Prelude.{◌≡◌, ◌<◌, ◌≤◌, ℕ, List, length, slice_index, take}
use Rattle.clause_variables.specs.declared.occurrences.Occurrences.{Occurrences}
use Rattle.clause_variables.specs.Terms.{count}

-- how often a variable occurs before a place
abbrev pub count_to : List ℕ → ℕ → ℕ → ℕ
count_to xs k x = count (take k xs) x

-- the number at each place is where that place occurs first from this place on, if it does
pub record AreFirsts (xs : List ℕ) (i : ℕ) (firsts : List ℕ) : Type 0 where
  pub after : (x k : ℕ) → count_to xs i x < count xs x → slice_index firsts x < k → count_to xs i x < count_to xs k x
  pub until : (x k : ℕ) → count_to xs i x < count xs x → i ≤ k → k ≤ slice_index firsts x → count_to xs k x ≡ count_to xs i x

-- the number at each place is the one after the last where that place occurs before this place, if it does
pub record AreEnds (xs : List ℕ) (i : ℕ) (ends : List ℕ) : Type 0 where
  pub before : (x k : ℕ) → 1 ≤ count_to xs i x → k < slice_index ends x → count_to xs k x < count_to xs i x
  pub from : (x k : ℕ) → 1 ≤ count_to xs i x → slice_index ends x ≤ k → k ≤ i → count_to xs k x ≡ count_to xs i x

-- there is room for the given number of variables
pub record HasSize (vars : ℕ) (p : Occurrences) : Type 0 where
  pub firsts : length p.firsts.items ≡ vars
  pub ends : length p.ends.items ≡ vars

-- these are the places of the variables of this list
pub record AreNoted (xs : List ℕ) (p : Occurrences) : Type 0 where
  pub firsts : AreFirsts xs 0 p.firsts.items
  pub ends : AreEnds xs (length xs) p.ends.items
