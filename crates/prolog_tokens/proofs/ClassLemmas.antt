-- Classes of bytes are apart from each other.
use Rattle.std.proofs.Common.{◌≡◌, ℕ, ◌||◌, ◌==◌, Bool, true, false, arith}
use Rattle.std.proofs.lemmas.Bool.Decides.{nat_tests}
use Rattle.prolog_tokens.specs.Bytes.{is_small, is_capital, is_digit, is_graphic, is_layout}

-- a byte that begins a variable
abbrev pub is_variable : ℕ → Bool
is_variable b = is_capital b || (b == 95)

pub variable_not_small : (b : ℕ) → is_variable b ≡ true → is_small b ≡ false
variable_not_small b h = grind (arith, nat_tests)

pub digit_not_small : (b : ℕ) → is_digit b ≡ true → is_small b ≡ false
digit_not_small b h = grind (arith, nat_tests)

pub digit_not_variable : (b : ℕ) → is_digit b ≡ true → is_variable b ≡ false
digit_not_variable b h = grind (arith, nat_tests)

pub graphic_not_small : (b : ℕ) → is_graphic b ≡ true → is_small b ≡ false
unfolding is_graphic
graphic_not_small b h = grind (arith, nat_tests)

pub graphic_not_variable : (b : ℕ) → is_graphic b ≡ true → is_variable b ≡ false
unfolding is_graphic
graphic_not_variable b h = grind (arith, nat_tests)

pub graphic_not_digit : (b : ℕ) → is_graphic b ≡ true → is_digit b ≡ false
unfolding is_graphic
graphic_not_digit b h = grind (arith, nat_tests)

pub graphic_not_quote : (b : ℕ) → is_graphic b ≡ true → (b == 39) ≡ false
unfolding is_graphic
graphic_not_quote b h = grind (arith, nat_tests)

pub graphic_not_double : (b : ℕ) → is_graphic b ≡ true → (b == 34) ≡ false
unfolding is_graphic
graphic_not_double b h = grind (arith, nat_tests)

pub graphic_ends_none : (b : ℕ) → is_graphic b ≡ true → (is_layout b || (b == 37)) ≡ false
unfolding is_graphic
graphic_ends_none b h = grind (arith, nat_tests)
