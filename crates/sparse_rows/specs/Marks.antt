-- Private.
-- One number for the coefficients of a row, by which rows that do not agree are distinguished quickly. Nothing here has
-- to be believed.
use Rattle.std.specs.Prelude.{◌≡◌, ℕ, zero, suc, ℤ, List, Bool, true, ◌+◌, ◌*◌, ◌%◌, slice_index_or, unsigned_abs}
use Rattle.std.specs.List.{AllByRecursion}
use Rattle.exact128.specs.Sums.{entry}

-- a mark with one number more
abbrev pub mixed : ℕ → ℤ → ℕ
mixed mark x = (mark * 1000003 + unsigned_abs x) % 2147483647

-- the mark of a row in the columns 1 to m
abbrev pub mark_of : ℕ → List ℤ → ℕ
mark_of zero row = 0
mark_of (suc m) row = mixed (mark_of m row) (entry row (suc m))

-- the flag of a mark is up, or there is none
abbrev pub is_up : List Bool → ℕ → Bool
is_up flags mark = slice_index_or flags (mark % 65536) true

-- the flag of each of some marks is up, or there is none
abbrev pub AreUp : List Bool → List ℕ → Type 0
AreUp flags marks = AllByRecursion (λ mark. is_up flags mark ≡ true) marks
