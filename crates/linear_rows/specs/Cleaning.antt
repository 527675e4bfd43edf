-- A procedure, to believe for who is blown.
-- Rows divided by what their numbers share, without those that say nothing and without those that others imply.
use Rattle.std.specs.Prelude.{ℕ, zero, suc, ℤ, pos, negsuc, List, [], ◌∷◌, ◌++◌, Bool, true, false, not, ◌&&◌, nat_eq, map, filter, fold, unsigned_abs, int_le, int_div, if◌then◌else◌}
use Rattle.exact128.specs.Gcd.{gcd}
use Rattle.exact128.specs.Sums.{entry}

-- the greatest common divisor of the numbers of a row
unfoldable pub row_gcd : List ℤ → ℕ
row_gcd [] = 0
row_gcd (x ∷ xs) = gcd (unsigned_abs x) (row_gcd xs)

-- the row divided by it; a row of zeros stays one
abbrev pub reduced : List ℤ → List ℤ
reduced row = map (λ x. int_div x (pos (row_gcd row))) row

-- two numbers are the same
abbrev pub int_same : ℤ → ℤ → Bool
int_same (pos a) (pos b) = nat_eq a b
int_same (pos a) (negsuc b) = false
int_same (negsuc a) (pos b) = false
int_same (negsuc a) (negsuc b) = nat_eq a b

-- two rows have the same coefficients in the columns 1 to m
abbrev pub agree : ℕ → List ℤ → List ℤ → Bool
agree zero r s = true
agree (suc m) r s = int_same (entry r (suc m)) (entry s (suc m)) && agree m r s

-- a row has no coefficient and a constant of at least 0
abbrev pub is_trivial : ℕ → List ℤ → Bool
is_trivial m row = agree m row [] && int_le (pos 0) (entry row 0)

-- the rows so far with one more: of rows with the same coefficients the one with the least constant stays, at its own
-- place, and the first among equals
abbrev pub insert_row : ℕ → List (List ℤ) → List ℤ → List (List ℤ)
insert_row m [] row = row ∷ []
insert_row m (r ∷ rs) row =
    if agree m r row
    then (if int_le (entry r 0) (entry row 0) then (r ∷ rs) else (rs ++ row ∷ []))
    else (r ∷ insert_row m rs row)

-- the rows that stay
abbrev pub cleaned : ℕ → List (List ℤ) → List (List ℤ)
cleaned m rows = fold (insert_row m) [] (filter (λ r. not (is_trivial m r)) (map reduced rows))
