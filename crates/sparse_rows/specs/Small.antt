-- Private.
-- Numbers so small that no product of two and no sum of two products is too large.
use Rattle.std.specs.Prelude.{ℤ, Bool, ◌^◌, unsigned_abs, nat_lt}

-- a number is below 2^62 in absolute value
abbrev pub small : ℤ → Bool
small z = nat_lt (unsigned_abs z) (2 ^ 62)
