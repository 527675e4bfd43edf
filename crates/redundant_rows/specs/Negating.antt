-- Private.
-- Numbers that have an opposite among the code's numbers.
use Rattle.std.specs.Prelude.{◌≢◌, ◌-◌, ◌^◌, ℤ, negsuc}

-- a number of 128 bits other than the least one
abbrev pub IsNegatable : ℤ → Type 0
IsNegatable x = x ≢ negsuc (2 ^ 127 - 1)
