-- A procedure, to believe for who is blown.
-- The greatest common divisor of two natural numbers.
--
-- Source: Euclid's algorithm. That it is the greatest common divisor is a clause of the function `gcd`.
use Rattle.std.specs.Prelude.{ℕ, zero, suc, ◌%◌}

-- what the given number of steps of Euclid's algorithm leave of a and b
unfoldable pub gcd_within : ℕ → ℕ → ℕ → ℕ
gcd_within zero a b = a
gcd_within (suc n) a zero = a
gcd_within (suc n) a (suc b) = gcd_within n (suc b) (a % suc b)

-- the greatest common divisor: the second number falls at each step, so that one step more than it is enough
unfoldable pub gcd : ℕ → ℕ → ℕ
gcd a b = gcd_within (suc b) a b
