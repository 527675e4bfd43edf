-- Lemmas on the number that digits spell.
use Rattle.std.proofs.Common.{◌≡◌, ℕ, suc, ◌+◌, ◌*◌, ◌≤◌, ◌<◌, ◌^◌, List, [], ◌∷◌, ◌++◌, length, drop, true, refl, get_or, arith, add-one, drop-cons}
use Rattle.std.proofs.lemmas.Bool.Decides.{nat_tests}
use Rattle.std.specs.Char.{digit_value, is_digit}
use Rattle.prolog_tokens.specs.Bytes.{is_digit as is_decimal}
use Rattle.prolog_tokens.specs.Numbers.{number_of, number_from}

-- a base makes no number smaller
le-times : (base n : ℕ) → 0 < base → n ≤ base * n
le-times base n h = grind arith

-- more digits make no smaller number
pub le-number_from : (base : ℕ) (bs : List ℕ) (n : ℕ) → 0 < base → n ≤ number_from base n bs
le-number_from base [] n h = omega arith
le-number_from base (b ∷ bs) n h = omega (arith, le-times base n h, le-number_from base bs (base * n + digit_value b) h)

-- with the next digit it is too large, so it stays so
pub too_large : (base : ℕ) (ds : List ℕ) (i n : ℕ) → 0 < base → i < length ds → number_from base n (drop i ds) ≡ number_of base ds
    → 2 ^ 127 ≤ base * n + digit_value (get_or ds i 0) → number_of base ds < 2 ^ 127 → ⊥
too_large base ds i n some below spelled large small =
    let e : number_from base (base * n + digit_value (get_or ds i 0)) (drop (suc i) ds) ≡ number_of base ds = rw (drop-cons ds i 0) at spelled in
    omega (arith, le-number_from base (drop (suc i) ds) (base * n + digit_value (get_or ds i 0)) some)

-- one digit more is spelled
pub next_digit : (base : ℕ) (ds : List ℕ) (i n : ℕ) → i < length ds → number_from base n (drop i ds) ≡ number_of base ds
    → number_from base (base * n + digit_value (get_or ds i 0)) (drop (i + 1) ds) ≡ number_of base ds
next_digit base ds i n below spelled = rw add-one (rw (drop-cons ds i 0) at spelled)

-- digits after digits
number_from-append : (base n : ℕ) (ds es : List ℕ) → number_from base n (ds ++ es) ≡ number_from base (number_from base n ds) es
number_from-append base n [] es = refl
number_from-append base n (d ∷ ds) es = number_from-append base (base * n + digit_value d) ds es

-- digits after digits make no smaller number
pub number_of-le-append : (base : ℕ) (ds es : List ℕ) → 0 < base → number_of base ds ≤ number_of base (ds ++ es)
number_of-le-append base ds es some = omega (arith, number_from-append base 0 ds es, le-number_from base es (number_of base ds) some)

-- an octal digit is one from 0 to 7
pub octal_digit : (d : ℕ) → is_digit d 8 ≡ true → (48 ≤ d) × (d ≤ 55)
octal_digit d h = grind (arith, nat_tests)

-- the decimal digits
pub decimal_digit : (d : ℕ) → is_digit d 10 ≡ is_decimal d
decimal_digit d = grind (arith, nat_tests)
