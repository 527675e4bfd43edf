-- Private.
-- Lists of numbers, most of them 0, as the numbers that are not 0 with the zeros before each.
use Rattle.std.specs.Prelude.{◌≡◌, ℕ, ◌+◌, ℤ, List, [], ◌∷◌, ◌++◌, drop}
use Rattle.exact128.specs.Sums.{entry}
use Rattle.linear_rows.specs.Solving.{zeros}
use Rattle.sparse_rows.specs.declared.part.Part.{Part}
use Rattle.sparse_rows.specs.declared.part.Place.{Place}

-- the list: each part is a number after the given number of zeros, and the given number of zeros come last
abbrev pub spread : List Part → ℕ → List ℤ
spread [] tail = zeros tail
spread (x ∷ xs) tail = zeros x.zeros ++ x.number ∷ spread xs tail

-- how many zeros come first
abbrev pub first_zeros : List Part → ℕ → ℕ
first_zeros [] tail = tail
first_zeros (x ∷ xs) tail = x.zeros

-- the list from the first part's number on
abbrev pub from_number : List Part → ℕ → List ℤ
from_number [] tail = []
from_number (x ∷ xs) tail = x.number ∷ spread xs tail

-- what a walk has still to see
abbrev pub rest_at : List Part → ℕ → Place → List ℤ
rest_at parts tail p = zeros p.before ++ from_number (drop p.index parts) tail

-- a walk stands at this place of the list: what it has still to see is the list from there on, with zeros past its end
abbrev pub StandsAt : List Part → ℕ → ℕ → Place → Type 0
StandsAt parts tail at p = (k : ℕ) → entry (rest_at parts tail p) k ≡ entry (spread parts tail) (at + k)
