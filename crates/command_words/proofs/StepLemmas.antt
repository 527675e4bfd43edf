-- The number that a text spells.
use Rattle.std.proofs.Common.{◌≡◌, ℕ, ◌+◌, ◌*◌, ◌<◌, ◌≤◌, Bool, true, false, ◌&&◌, nat_lt, List, [], ◌∷◌, length, drop, get_or, Some, None, refl, ap, sym, ◌∙◌, if◌then◌else◌, arith}
use Rattle.std.proofs.lemmas.List.{at_drop_more}
use Rattle.std.proofs.lemmas.Bool.{lt-leb}
use Rattle.std.specs.Char.{digit_value}
use Rattle.std.specs.Str.Parse.{digits_value, digits_value_after}
use Rattle.command_words.specs.Words.{is_short_number, number_in}

-- more digits make no number less
pub after_least : (n : ℕ) (ds : List ℕ) → n ≤ digits_value_after 10 n ds
after_least n [] = omega arith
after_least n (d ∷ ds) = let rest = after_least (n * 10 + digit_value d) ds in omega (arith, rest)

-- a number that is too large
no_number : (short some : Bool) (n : ℕ) → (if short && (some && false) then Some n else None) ≡ None
no_number true true n = refl
no_number true false n = refl
no_number false some n = refl

-- digits that are too many by their value
pub too_many : (digits greatest : ℕ) (text : List ℕ) (i value byte digit : ℕ) → i < length text → byte ≡ get_or text i 0 → (digit_value byte < 10) × (digit ≡ digit_value byte)
    → digits_value_after 10 value (drop i text) ≡ digits_value 10 text → greatest < value * 10 + digit → None ≡ number_in digits greatest text
too_many digits greatest text i value byte digit inside read h is large =
    let e = at_drop_more (digits_value_after 10 value) text i 0 inside in
    let d : digit_value (get_or text i 0) ≡ digit = ap digit_value (sym read) ∙ sym h.1 in
    let least = after_least (value * 10 + digit_value (get_or text i 0)) (drop (i + 1) text) in
    let big : greatest < digits_value 10 text = omega (arith, least, e, is, d, large) in
    let n = digits_value 10 text in
    sym (ap (λ b. if is_short_number digits text && (nat_lt 0 n && b) then Some n else None) (lt-leb n greatest big) ∙ no_number (is_short_number digits text) (nat_lt 0 n) n)
