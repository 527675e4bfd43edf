-- A procedure, to believe for who is blown.
-- Fractions of whole numbers, and their operations with each number that an operation forms.
--
-- An operation has a value exactly where each number that it forms fits. These formulas name those numbers,
-- so that two readers agree on which sums and products are refused. That their values are the sum, the product,
-- the quotient and the order of the fractions is said by clauses of the calls of the crate
-- rational128.
use Rattle.std.specs.Prelude.{ℕ, ℤ, pos, negsuc, neg_ℤ, ◌/◌, ◌+ℤ◌, ◌*ℤ◌, Bool, true, false, ◌&&◌, Option, Some, None, unsigned_abs, int_lt, int_div}
use Rattle.exact128.specs.Fits.{Fits, fits}
use Rattle.exact128.specs.Gcd.{gcd}

-- num / den, with den at least 1
pub record Fraction : Type 0 where
  pub num : ℤ
  pub den : ℤ

-- a whole number as a fraction
abbrev pub whole : ℤ → Fraction
whole a = record { num = a; den = pos 1 }

-- ---- values that may be missing
-- a value, where a test says so
abbrev pub where_fits : {X : Type 0} → Bool → X → Option X
where_fits true x = Some x
where_fits false x = None

-- the next step, where there is a value
abbrev pub then_do : {X Y : Type 0} → Option X → (X → Option Y) → Option Y
then_do None f = None
then_do (Some x) f = f x

-- ---- lowest terms
-- the number of size n whose sign is that of a / b
abbrev pub signed_of : ℕ → ℤ → ℤ → ℤ
signed_of n (pos a) (pos b) = pos n
signed_of n (pos a) (negsuc b) = neg_ℤ (pos n)
signed_of n (negsuc a) (pos b) = neg_ℤ (pos n)
signed_of n (negsuc a) (negsuc b) = pos n

-- a / b in lowest terms, for b other than 0
unfoldable pub lowest : ℤ → ℤ → Fraction
lowest a b =
    let g = gcd (unsigned_abs a) (unsigned_abs b) in
    record { num = signed_of (unsigned_abs a / g) a b; den = pos (unsigned_abs b / g) }

-- whether both numbers of a fraction fit
abbrev pub fraction_fits : Fraction → Bool
fraction_fits f = fits f.num && fits f.den

-- a / b in lowest terms fits
pub record LowestFits (a b : ℤ) : Type 0 where
  pub num : Fits (lowest a b).num
  pub den : Fits (lowest a b).den

-- a / b in lowest terms, where that fits
unfoldable pub ratio : ℤ → ℤ → Option Fraction
ratio a b = where_fits (fraction_fits (lowest a b)) (lowest a b)

-- ---- products and quotients: nothing counts but the result in lowest terms
abbrev pub product : Fraction → Fraction → Option Fraction
product x y = ratio (x.num *ℤ y.num) (x.den *ℤ y.den)

abbrev pub quotient : Fraction → Fraction → Option Fraction
quotient x y = ratio (x.num *ℤ y.den) (x.den *ℤ y.num)

-- ---- sums
-- what two denominators share
unfoldable pub shared_of : ℤ → ℤ → ℕ
shared_of b d = gcd (unsigned_abs b) (unsigned_abs d)

-- a times the part of d that is left without g
unfoldable pub scaled_of : ℤ → ℤ → ℕ → ℤ
scaled_of a d g = a *ℤ pos (unsigned_abs d / g)

-- the numerator of a / b + c / d over the least common denominator
unfoldable pub sum_of : ℤ → ℤ → ℤ → ℤ → ℤ
sum_of a b c d = scaled_of a d (shared_of b d) +ℤ scaled_of c b (shared_of b d)

-- what that numerator s still shares with the denominator
unfoldable pub again_of : ℤ → ℤ → ℤ → ℕ
again_of s b d = gcd (unsigned_abs s) (shared_of b d)

-- the least common denominator without it
unfoldable pub bottom_of : ℤ → ℤ → ℤ → ℤ
bottom_of s b d = scaled_of (pos (unsigned_abs b / shared_of b d)) d (again_of s b d)

-- each number that the sum of a / b and c / d forms fits
pub record SumFits (a b c d : ℤ) : Type 0 where
  pub left : Fits (scaled_of a d (shared_of b d))
  pub right : Fits (scaled_of c b (shared_of b d))
  pub sum : Fits (sum_of a b c d)
  pub bottom : Fits (bottom_of (sum_of a b c d) b d)

-- the sum
unfoldable pub sum : Fraction → Fraction → Option Fraction
sum x y =
    let s = sum_of x.num x.den y.num y.den in
    where_fits ((fits (scaled_of x.num y.den (shared_of x.den y.den)) && fits (scaled_of y.num x.den (shared_of x.den y.den))) && (fits s && fits (bottom_of s x.den y.den)))
    (record { num = int_div s (pos (again_of s x.den y.den)); den = bottom_of s x.den y.den })

-- ---- order
-- both numbers that the comparison of a / b and c / d forms fit
pub record OrderFits (a b c d : ℤ) : Type 0 where
  pub left : Fits (scaled_of a d (shared_of b d))
  pub right : Fits (scaled_of c b (shared_of b d))

-- whether x is greater than y
unfoldable pub exceeds : Fraction → Fraction → Option Bool
exceeds x y =
    let g = shared_of x.den y.den in
    where_fits (fits (scaled_of x.num y.den g) && fits (scaled_of y.num x.den g)) (int_lt (scaled_of y.num x.den g) (scaled_of x.num y.den g))
