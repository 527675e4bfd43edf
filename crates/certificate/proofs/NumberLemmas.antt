-- Lemmas on the number at the front of a text.
use Rattle.std.proofs.Common.{◌≡◌, ℕ, ◌+◌, ◌-◌, ◌*◌, ◌<◌, ◌≤◌, List, length, take, drop, get_or, Some, None, option_map, ap, arith, lit≤}
use Rattle.std.proofs.Math.Seq.{take-length}
use Rattle.std.proofs.lemmas.List.{get_or_past, length-drop}
use Rattle.std.proofs.lemmas.Int.Digits.{digits_more, digits_value_more}
use Rattle.std.specs.Char.{digit_value}
use Rattle.std.specs.Str.Parse.{AllDigits, digits_value}
use Rattle.std.proofs.NetLemmas.Numbers.{read_number_some_at, read_number_large_at, read_number_empty}
use Rattle.certificate.specs.Parse.{read_natural}

-- one more digit
pub more : (s : List ℕ) (i j value byte digit : ℕ) → i ≡ j → j < length s → AllDigits 10 (take i s) → value ≡ digits_value 10 (take i s) → byte ≡ get_or s j 0
    → (digit_value byte < 10) × (digit ≡ digit_value byte) → AllDigits 10 (take (i + 1) s) × (value * 10 + digit ≡ digits_value 10 (take (i + 1) s))
more s i j value byte digit same within all is read h =
    let inside : i < length s = omega arith in
    let at : byte ≡ get_or s i 0 = rw same read in
    (digits_more 10 s i inside all (rw (← at) h.0), rw (digits_value_more 10 s i inside, ← at, ← is, h.1))

-- the loop ends at the end of the text or at a byte that is not a digit
pub past : (s : List ℕ) (i j : ℕ) → i ≡ j → length s ≤ j → 10 ≤ digit_value (get_or s i 0)
past s i j same end = rw (same, get_or_past s j 0 end) (lit≤ tt)

pub other : (s : List ℕ) (i j byte : ℕ) → i ≡ j → byte ≡ get_or s j 0 → ¬ (digit_value byte < 10) → 10 ≤ digit_value (get_or s i 0)
other s i j byte same read h = rw (same, ← read) (let d = digit_value byte in omega arith)

-- a slice to the end
pub to_end : (n : ℕ) (s : List ℕ) → take (length s - n) (drop n s) ≡ drop n s
to_end n s = rw (← length-drop n s) (take-length (drop n s))

-- digits whose value is too large are not a number
pub too_large : (most : ℕ) (s : List ℕ) (i : ℕ) → AllDigits 10 (take i s) → most < digits_value 10 (take i s) → read_natural most s ≡ None
too_large most s i all large = ap (λ o. option_map (λ n. (n.0, drop n.1 s)) o) (read_number_large_at 10 most s i (omega arith) all large)

-- where there is no digit there is no number
pub no_digit : (most : ℕ) (s : List ℕ) → 10 ≤ digit_value (get_or s 0 0) → read_natural most s ≡ None
no_digit most s stop = ap (λ o. option_map (λ n. (n.0, drop n.1 s)) o) (read_number_empty 10 most s stop)

-- all the digits
pub whole : (most : ℕ) (s : List ℕ) (i value : ℕ) → 0 < i → i ≤ length s → AllDigits 10 (take i s) → value ≡ digits_value 10 (take i s) → value ≤ most
    → 10 ≤ digit_value (get_or s i 0) → read_natural most s ≡ Some (value, take (length s - i) (drop i s))
whole most s i value some inside all is fits stop =
    rw (to_end i s, is) (ap (λ o. option_map (λ n. (n.0, drop n.1 s)) o) (read_number_some_at 10 most s i some inside all (rw (← is) fits) stop))
