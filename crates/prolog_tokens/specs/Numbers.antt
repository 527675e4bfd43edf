-- To believe, for reading.
-- The number that digits spell in a base from 2 to 16, with both cases of letters.
use Rattle.std.specs.Prelude.{ℕ, ◌+◌, ◌*◌, List, [], ◌∷◌}
use Rattle.std.specs.Char.{digit_value, is_digit}
use Rattle.std.specs.List.{prefix_len}

-- how many digits of the base the bytes begin with
abbrev pub digits_len : ℕ → List ℕ → ℕ
digits_len base bs = prefix_len (λ b. is_digit b base) bs

-- the number of some digits and then of these
abbrev pub number_from : ℕ → ℕ → List ℕ → ℕ
number_from base n [] = n
number_from base n (b ∷ bs) = number_from base (base * n + digit_value b) bs

-- the number of the digits
abbrev pub number_of : ℕ → List ℕ → ℕ
number_of base bs = number_from base 0 bs
