-- A procedure, to believe for who is blown.
-- When steps of elimination are blown.
--
-- A step is blown where a number that it forms does not fit, or where it leaves more than 4,096 rows. The rows' own
-- numbers are step 0, and the steps after it are counted from 1. All numbers of a step count, also where its rows are
-- too many. Divisions form no number that counts, since what is divided fits.
--
-- This retells a procedure, and no promise on sizes or levels rests on it.
use Rattle.std.specs.Prelude.{ℕ, suc, ℤ, pos, List, [], ◌∷◌, ◌/◌, ◌+◌, ◌+ℤ◌, ◌*ℤ◌, Bool, true, false, ◌&&◌, ◌||◌, not, nat_lt, unsigned_abs, filter, length, Option, Some, None, if◌then◌else◌, slice_index_or}
use Rattle.exact128.specs.Fits.{fits}
use Rattle.exact128.specs.Gcd.{gcd}
use Rattle.exact128.specs.Sums.{entry}
use Rattle.linear_rows.specs.Elimination.{is_positive, is_negative, rising, falling}
use Rattle.linear_rows.specs.Equation.{equation_from, other_places}
use Rattle.linear_rows.specs.Step.{eliminated}

-- each element passes a test
abbrev pub all_of : {X : Type 0} → (X → Bool) → List X → Bool
all_of p [] = true
all_of p (x ∷ xs) = p x && all_of p xs

-- the rows' own numbers fit
abbrev pub numbers_fit : List (List ℤ) → Bool
numbers_fit rows = all_of (all_of fits) rows

-- the sum of a times one row and b times another: both products and their sum fit, in each column
abbrev pub blend_fits : ℤ → ℤ → List ℤ → List ℤ → Bool
blend_fits a b [] ys = true
blend_fits a b (x ∷ xs) [] = true
blend_fits a b (x ∷ xs) (y ∷ ys) = (fits (a *ℤ x) && (fits (b *ℤ y) && fits (a *ℤ x +ℤ b *ℤ y))) && blend_fits a b xs ys

-- the numbers of the combination of r, which rises, and s, which falls, fit
unfoldable pub crossed_fits : ℕ → List ℤ → List ℤ → Bool
crossed_fits k r s =
    let g = gcd (unsigned_abs (entry r k)) (unsigned_abs (entry s k)) in
    blend_fits (pos (unsigned_abs (entry s k) / g)) (pos (unsigned_abs (entry r k) / g)) r s

-- the numbers of a row crossed with the equation of r and s fit
abbrev pub solved_fits : ℕ → List ℤ → List ℤ → List ℤ → Bool
solved_fits k r s q = if is_negative (entry q k) then crossed_fits k r q else crossed_fits k q s

-- the numbers of a step without an equation fit
unfoldable pub crossings_fit : ℕ → List (List ℤ) → Bool
crossings_fit k rows = all_of (λ r. all_of (crossed_fits k r) (falling k rows)) (rising k rows)

-- the numbers of a step by the equation at the places i and j fit
unfoldable pub solved_rows_fit : ℕ → ℕ → ℕ → List (List ℤ) → Bool
solved_rows_fit k i j rows =
    all_of (solved_fits k (slice_index_or rows i []) (slice_index_or rows j [])) (filter (λ q. is_positive (entry q k) || is_negative (entry q k)) (other_places 0 i j rows))

abbrev pub combinations_fit : Option (ℕ × ℕ) → ℕ → List (List ℤ) → Bool
combinations_fit (Some (i, j)) k rows = solved_rows_fit k i j rows
combinations_fit None k rows = crossings_fit k rows

-- each number that a step forms fits
unfoldable pub step_fits : ℕ → ℕ → List (List ℤ) → Bool
step_fits m k rows = combinations_fit (equation_from (m + 1) k rows 0 rows) k rows

-- a step's fault, if its numbers fit or not, and if its rows are too many or not: whether a number was too large
abbrev pub fault_of : Bool → Bool → Option Bool
fault_of true true = None
fault_of true false = Some false
fault_of false b = Some true

-- whether a step is blown, and if so, whether by a number that was too large
unfoldable pub step_fault : ℕ → ℕ → List (List ℤ) → Option Bool
step_fault m k rows = fault_of (step_fits m k rows) (not (nat_lt 4096 (length (eliminated m k rows))))

-- a step's fault with its number, or else what comes after it
abbrev pub or_else : Option Bool → ℕ → Option (ℕ × Bool) → Option (ℕ × Bool)
or_else (Some wide) number next = Some (number, wide)
or_else None number next = next

-- the first blown step of those that eliminate these columns, counted from this number on
abbrev pub blown_from : ℕ → ℕ → List ℕ → List (List ℤ) → Option (ℕ × Bool)
blown_from m number [] rows = None
blown_from m number (k ∷ ks) rows = or_else (step_fault m k rows) number (blown_from m (suc number) ks (eliminated m k rows))

-- the first blown step, with whether a number was too large there
unfoldable pub blown_step : ℕ → List ℕ → List (List ℤ) → Option (ℕ × Bool)
blown_step m ks rows = if numbers_fit rows then blown_from m 1 ks rows else (Some (0, true))
