-- A procedure, to believe for who is blown.
-- Solving of rows over naturals: a point at which all hold, or multipliers that refute them.
--
-- All variables are eliminated in ascending order, t last. Where a row with no coefficient and a negative constant is
-- left, the multipliers that it carries refute the rows. Otherwise values are chosen in the reverse order: each
-- variable gets the greatest of 0 and of its bounds from below. At last the values are multiplied by the least common
-- multiple of their denominators. A solving is blown where a step is, and at its last step where a number of the values
-- or of the last check does not fit.
--
-- This retells a procedure, and no promise on sizes or levels rests on it. That a found point is one and that a
-- refutation refutes is the law `solving_decides` of this crate.
use Rattle.std.specs.Prelude.{ℕ, zero, suc, ℤ, pos, negsuc, neg_ℤ, List, [], ◌∷◌, ◌++◌, ◌/◌, ◌+◌, ◌+ℤ◌, ◌-ℤ◌, ◌*ℤ◌, Bool, true, ◌&&◌, Option, Some, None, unsigned_abs, if◌then◌else◌, drop, take, length}
use Rattle.exact128.specs.Fits.{fits}
use Rattle.exact128.specs.Gcd.{gcd}
use Rattle.exact128.specs.Sums.{entry, dot}
use Rattle.exact128.specs.Fractions.{Fraction, whole, where_fits, then_do, product, quotient, sum, exceeds}
use Rattle.linear_rows.specs.Rows.{column}
use Rattle.linear_rows.specs.Proves.{goal_number}
use Rattle.linear_rows.specs.Elimination.{rising}
use Rattle.linear_rows.specs.Blown.{all_of, blown_step}
use Rattle.linear_rows.specs.Step.{eliminated, all_eliminated, columns}

-- ---- the rows that are solved, for given rows of n coefficients
-- column 0 is the constant, 1 to n are the variables, n + 1 is t, and then comes one column for each given row, in
-- which rows carry their multipliers of it

-- n numbers, all 0
abbrev pub zeros : ℕ → List ℤ
zeros zero = []
zeros (suc n) = pos 0 ∷ zeros n

-- n numbers, 1 at place i and else 0
abbrev pub units : ℕ → ℕ → List ℤ
units zero i = []
units (suc n) zero = pos 1 ∷ zeros n
units (suc n) (suc i) = pos 0 ∷ units n i

-- the given number of variables, from place i on, are at least 0
abbrev pub floors : ℕ → ℕ → ℕ → List (List ℤ)
floors zero i long = []
floors (suc n) i long = (pos 0 ∷ units long i) ∷ floors n (suc i) long

-- a row without its constant
abbrev pub coefficients : List ℤ → List ℤ
coefficients [] = []
coefficients (b ∷ cs) = cs

-- the given rows, from place i of the given number on, each with its constant as the coefficient of t
abbrev pub carried : ℕ → ℕ → List (List ℤ) → List (List ℤ)
carried long i [] = []
carried long i (r ∷ rs) = (pos 0 ∷ (coefficients r ++ entry r 0 ∷ units long i)) ∷ carried long (suc i) rs

-- each variable is at least 0, t is at least 1, and the given rows hold
unfoldable pub start_rows : ℕ → List (List ℤ) → List (List ℤ)
start_rows n given =
    let long = n + 1 + length given in
    floors n 0 long ++ (negsuc 0 ∷ units long n) ∷ carried (length given) 0 given

-- ---- values
-- a sum of products, on top of s, in the order of the columns
abbrev pub sum_on : Fraction → List ℤ → List Fraction → Option Fraction
sum_on s [] vs = Some s
sum_on s (a ∷ cs) [] = Some s
sum_on s (a ∷ cs) (v ∷ vs) = then_do (product (whole a) v) (λ p. then_do (sum s p) (λ z. sum_on z cs vs))

abbrev pub negated : Fraction → Fraction
negated x = record { num = neg_ℤ x.num; den = x.den }

-- what a row that rises in column k says that its variable is at least, where the columns after it have these values:
-- the constant and the products, negated and divided by the coefficient
unfoldable pub bound : ℕ → List Fraction → List ℤ → Option Fraction
bound k vs r = then_do (sum_on (whole (entry r 0)) (drop (suc k) r) vs) (λ s. quotient (negated s) (whole (entry r k)))

-- the greatest of a value and of the rows' bounds, bound by bound
abbrev pub greatest : ℕ → List Fraction → Fraction → List (List ℤ) → Option Fraction
greatest k vs best [] = Some best
greatest k vs best (r ∷ rs) = then_do (bound k vs r) (λ b. then_do (exceeds b best) (λ more. greatest k vs (if more then b else best) rs))

-- the values of the columns ks, which are eliminated from the rows in this order: a column's value is chosen after
-- those of the columns that are eliminated later
abbrev pub values_of : ℕ → List ℕ → List (List ℤ) → Option (List Fraction)
values_of m [] rows = Some []
values_of m (k ∷ ks) rows =
    then_do (values_of m ks (eliminated m k rows)) (λ vs. then_do (greatest k vs (whole (pos 0)) (rising k rows)) (λ v. Some (v ∷ vs)))

-- the least common multiple of c and the denominators, taken in order
abbrev pub common_of : ℤ → List Fraction → Option ℤ
common_of c [] = Some c
common_of c (v ∷ vs) =
    let more = pos (unsigned_abs c / gcd (unsigned_abs c) (unsigned_abs v.den)) *ℤ v.den in
    then_do (where_fits (fits more) more) (λ d. common_of d vs)

-- the values times a common multiple of their denominators
abbrev pub made_whole : ℤ → List Fraction → Option (List ℤ)
made_whole c [] = Some []
made_whole c (v ∷ vs) =
    let x = v.num *ℤ pos (unsigned_abs c / unsigned_abs v.den) in
    then_do (where_fits (fits x) x) (λ x. then_do (made_whole c vs) (λ xs. Some (x ∷ xs)))

unfoldable pub whole_values : ℕ → List ℕ → List (List ℤ) → Option (List ℤ)
whole_values m ks rows = then_do (values_of m ks rows) (λ vs. then_do (common_of (pos 1) vs) (λ c. made_whole c vs))

-- ---- the last checks
-- each product and running sum fits, from this sum on
abbrev pub sums_fit : ℤ → List ℤ → List ℤ → Bool
sums_fit s [] ys = true
sums_fit s (x ∷ xs) [] = true
sums_fit s (x ∷ xs) (y ∷ ys) = (fits (x *ℤ y) && fits (s +ℤ x *ℤ y)) && sums_fit (s +ℤ x *ℤ y) xs ys

-- the value of each row at the point is formed in numbers that fit
unfoldable pub point_fits : List (List ℤ) → ℤ → List ℤ → Bool
point_fits rows t w = all_of (λ r. sums_fit (pos 0) r (t ∷ w)) rows

-- the test of multipliers with scale 0 is done in numbers that fit, in the given number of columns from k on
abbrev pub refutes_in : List (List ℤ) → List ℤ → ℕ → ℕ → Bool
refutes_in rows ms k zero = true
refutes_in rows ms k (suc n) =
    (sums_fit (pos 0) ms (column rows k) && fits (goal_number (pos 0) [] k -ℤ dot ms (column rows k))) && refutes_in rows ms (suc k) n

-- ---- all together
pub data Solution : Type 0 where
  -- the first blown step, and whether a number was too large there
  Blown : ℕ → Bool → Solution
  -- t and the values of the variables
  Found : ℤ → List ℤ → Solution
  -- multipliers of the given rows
  Refuted : List ℤ → Solution

abbrev pub found_of : ℕ → List (List ℤ) → Option (List ℤ) → Solution
found_of n given None = Blown (n + 1) true
found_of n given (Some xs) =
    if point_fits given (entry xs n) (take n xs) then Found (entry xs n) (take n xs) else Blown (n + 1) true

abbrev pub end_of : ℕ → List (List ℤ) → List (List ℤ) → Solution
end_of n given [] = found_of n given (whole_values (n + 1) (columns 1 (n + 1)) (start_rows n given))
end_of n given (r ∷ rs) =
    let ms = drop (n + 2) r in
    if refutes_in given ms 0 (n + 1) then Refuted ms else Blown (n + 1) true

abbrev pub solved_by : ℕ → List (List ℤ) → Option (ℕ × Bool) → Solution
solved_by n given (Some (step, wide)) = Blown step wide
solved_by n given None = end_of n given (all_eliminated (n + 1) (columns 1 (n + 1)) (start_rows n given))

-- what solving the given rows, of n coefficients each, gives
unfoldable pub solution : ℕ → List (List ℤ) → Solution
solution n given = solved_by n given (blown_step (n + 1) (columns 1 (n + 1)) (start_rows n given))
