-- To believe, for the modes.
-- The whole numbers that the code's numbers reach: those of absolute value at most 2^127 - 1.
--
-- To believe: `Fits`. Every refusal of a number, in this crate and above it, is said by this word.
use Rattle.std.specs.Prelude.{ℤ, ◌<◌, ◌^◌, unsigned_abs, nat_lt, Bool}

-- a number fits
abbrev pub Fits : ℤ → Type 0
Fits z = unsigned_abs z < 2 ^ 127

-- whether a number fits, as a test
abbrev pub fits : ℤ → Bool
fits z = nat_lt (unsigned_abs z) (2 ^ 127)
