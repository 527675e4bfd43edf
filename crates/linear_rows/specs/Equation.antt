-- A procedure, to believe for who is blown.
-- Elimination by an equation: a row that stands among the rows with its negation.
--
-- The first n numbers of rows are compared. Rows are distinguished by their places, since rows that are the same in
-- these numbers may carry other ones after them.
use Rattle.std.specs.Prelude.{ℕ, zero, suc, ℤ, neg_ℤ, List, [], ◌∷◌, ◌++◌, Bool, true, ◌&&◌, ◌||◌, nat_eq, Option, Some, None, map, filter, if◌then◌else◌, slice_index_or}
use Rattle.std.specs.List.{list_any}
use Rattle.exact128.specs.Sums.{entry}
use Rattle.linear_rows.specs.Elimination.{is_positive, is_negative, without, crossed, crossings}
use Rattle.linear_rows.specs.Cleaning.{int_same}

-- the first n numbers of the row s are those of r, negated
abbrev pub negates : ℕ → List ℤ → List ℤ → Bool
negates zero r s = true
negates (suc n) r s = int_same (entry s n) (neg_ℤ (entry r n)) && negates n r s

-- the place of the first row with this property
abbrev pub place_of : {X : Type 0} → (X → Bool) → List X → ℕ
place_of p [] = 0
place_of p (x ∷ xs) = if p x then 0 else (suc (place_of p xs))

-- the places of the first row that rises in column k and has its negation among all rows, and of its first negation
abbrev pub equation_from : ℕ → ℕ → List (List ℤ) → ℕ → List (List ℤ) → Option (ℕ × ℕ)
equation_from n k all place [] = None
equation_from n k all place (r ∷ rs) =
    if is_positive (entry r k) && list_any (λ s. negates n r s) all
    then Some (place, place_of (λ s. negates n r s) all)
    else equation_from n k all (suc place) rs

-- the rows at other places than i and j
abbrev pub other_places : ℕ → ℕ → ℕ → List (List ℤ) → List (List ℤ)
other_places place i j [] = []
other_places place i j (r ∷ rs) =
    if nat_eq place i || nat_eq place j then other_places (suc place) i j rs else (r ∷ other_places (suc place) i j rs)

-- a row crossed with the equation of r and its negation s
abbrev pub solved_row : ℕ → List ℤ → List ℤ → List ℤ → List ℤ
solved_row k r s q = if is_negative (entry q k) then crossed k r q else crossed k q s

-- the other rows with the variable, each crossed with the equation
unfoldable pub solved_rows : ℕ → ℕ → ℕ → List (List ℤ) → List (List ℤ)
solved_rows k i j rows =
    map (solved_row k (slice_index_or rows i []) (slice_index_or rows j [])) (filter (λ q. is_positive (entry q k) || is_negative (entry q k)) (other_places 0 i j rows))

-- the new rows of one step: by an equation where there is one
abbrev pub combinations_by : Option (ℕ × ℕ) → ℕ → List (List ℤ) → List (List ℤ)
combinations_by (Some (i, j)) k rows = solved_rows k i j rows
combinations_by None k rows = crossings k rows

-- one step, before its rows are cleaned: the rows without the variable, then the combinations
abbrev pub step : ℕ → ℕ → List (List ℤ) → List (List ℤ)
step n k rows = without k rows ++ combinations_by (equation_from n k rows 0 rows) k rows
