-- Where there is a fault of the table, the computed token is that fault.
use Rattle.std.proofs.Common.{◌≡◌, ℕ, suc, ◌+◌, ◌-◌, ◌<◌, ◌≤◌, ◌^◌, ◌==◌, ◌||◌, nat_lt, Bool, true, false, List, [], ◌∷◌, ◌++◌, length, take, drop, Option, Some, None, Err, ◌⊎◌, inl, inr, ⊎_elim, refl, sym, ◌∙◌, ap, subst, zero-add, arith, lit<, if◌then◌else◌}
use Rattle.std.specs.Char.{is_digit as is_digit_in, IsScalar, digit_value}
use Rattle.std.proofs.Math.Utf8.{scalar}
use Rattle.std.proofs.lemmas.Bool.{eqb-true, ne_eqb, ltb-true, lt-ltb, le-ltb}
use Rattle.std.proofs.lemmas.Bool.Decides.{nat_tests}
use Rattle.std.proofs.lemmas.List.{take_at, drop_at}
use Rattle.prolog_tokens.specs.Bytes.{begins_with}
use Rattle.prolog_tokens.specs.Places.{fault_at}
use Rattle.prolog_tokens.specs.Numbers.{digits_len, number_of}
use Rattle.prolog_tokens.specs.Pieces.{piece_at, escape_of}
use Rattle.prolog_tokens.specs.Items.{item_len}
use Rattle.prolog_tokens.specs.Tokens.{decimal_at, based_at, code_of, integer_at, item_of, item_fault, token_at}
use Rattle.prolog_tokens.specs.Forms.{Each, AreDigits, IsBase, hexadecimal_base, octal_base, binary_base, SpellsCharacter, doubled, itself, escaped, hexadecimal, octal, SpellsNone, SpellsInteger, decimal, based, code, IsQuote, IsOpen, FitsNone, IsFault, no_token, byte_in_item, byte_after_zero, open_item, escape_in_item, escape_after_zero, fraction, wide}
use Rattle.prolog_tokens.specs.declared.piece.Piece.TheVariants.{Fault}
use Rattle.prolog_tokens.specs.declared.token.TokenKind.{TokenKind}
use Rattle.prolog_tokens.specs.declared.token.TokenKind.TheVariants as kind
use Rattle.prolog_tokens.specs.declared.fault.LexKind.{LexKind}
use Rattle.prolog_tokens.specs.declared.fault.LexKind.TheVariants.{BadByte, Unclosed, BadEscape, Float, WideNumber}
use Rattle.prolog_tokens.specs.declared.fault.LexFault.{LexFault}
use Rattle.prolog_tokens.proofs.CharacterLemmas.{either}
use Rattle.prolog_tokens.proofs.NumberLemmas.{decimal_digit, number_of-le-append}
use Rattle.prolog_tokens.proofs.RunLemmas.{Each-le, Each-run, length-run, prefix_len-Each}
use Rattle.prolog_tokens.proofs.PieceLemmas.{begins_is}
use Rattle.prolog_tokens.proofs.SpelledLemmas.{no_character_piece, no_escape_piece, line_end_piece, dropped_piece}
use Rattle.prolog_tokens.proofs.BodyLemmas.{item_failed}
use Rattle.prolog_tokens.proofs.FitLemmas.{token_at_digit, integer_at_based, integer_at_code, integer_at_digits, token_at_single, token_at_double, and_false}

-- the token that begins with a quote
item_token : (quote : ℕ) (bs : List ℕ) → IsQuote quote → (of : TokenKind) × (token_at (quote ∷ bs) ≡ item_of of (item_len quote 0 bs))
item_token quote bs q = ⊎_elim single double q
  where
    single : quote ≡ 39 → (of : TokenKind) × (token_at (quote ∷ bs) ≡ item_of of (item_len quote 0 bs))
    single e = (kind.Quoted, rw e (token_at_single bs))

    double : quote ≡ 34 → (of : TokenKind) × (token_at (quote ∷ bs) ≡ item_of of (item_len quote 0 bs))
    double e = (kind.Text, rw e (token_at_double bs))

-- an item with a fault
item_fault_found : (bytes : List ℕ) (quote : ℕ) (body after : List ℕ) (k : LexKind) → IsOpen bytes quote body after → piece_at quote after ≡ Fault k → token_at bytes ≡ Err (item_fault k (length body))
item_fault_found bytes quote body after k o fails =
    let token = item_token quote (body ++ after) o.is_quote in
    ap token_at o.whole ∙ token.1 ∙ ap (item_of token.0) (item_failed quote k after o.is_quote o.is_body fails)

-- a code after `0'`
code_found : (bytes after : List ℕ) → bytes ≡ 48 ∷ 39 ∷ after → token_at bytes ≡ code_of (piece_at 39 after)
code_found bytes after whole = ap token_at whole ∙ token_at_digit 48 (39 ∷ after) refl ∙ integer_at_code after

-- decimal digits and a dot are not an integer of another base
integer_at_dot : (b : ℕ) (bs : List ℕ) → integer_at (b ∷ 46 ∷ bs) ≡ decimal_at (b ∷ 46 ∷ bs)
unfolding integer_at
integer_at_dot b bs = rw (and_false (b == 48)) refl

integer_at_decimal : (b : ℕ) (ds rest : List ℕ) → Each (λ x. is_digit_in x 10) ds → integer_at (b ∷ (ds ++ 46 ∷ rest)) ≡ decimal_at (b ∷ (ds ++ 46 ∷ rest))
integer_at_decimal b [] rest h = integer_at_dot b rest
integer_at_decimal b (d ∷ ds) rest h = integer_at_digits b d (ds ++ 46 ∷ rest) (sym (decimal_digit d) ∙ h.0)

fraction_found : (digits after : List ℕ) (d : ℕ) → AreDigits 10 digits → number_of 10 digits < 2 ^ 127 → is_digit_in d 10 ≡ true → decimal_at (digits ++ 46 ∷ d ∷ after) ≡ Err (fault_at Float 0)
unfolding decimal_at
fraction_found digits after d are narrow digit =
    let p : ℕ → Bool = λ x. is_digit_in x 10 in
    let rest = 46 ∷ d ∷ after in
    let len : digits_len 10 (digits ++ 46 ∷ d ∷ after) ≡ length digits = prefix_len-Each p digits (46 ∷ d ∷ after) (Each-run p digits are) refl in
    let front : take (length digits) (digits ++ 46 ∷ d ∷ after) ≡ digits = take_at digits (46 ∷ d ∷ after) (length digits) refl in
    let back : drop (length digits) (digits ++ 46 ∷ d ∷ after) ≡ 46 ∷ d ∷ after = drop_at digits (46 ∷ d ∷ after) (length digits) refl in
    let some : nat_lt 0 (1 + digits_len 10 after) ≡ true = lt-ltb 0 (1 + digits_len 10 after) (omega arith) in
    rw len (rw (front, back) (rw (lt-ltb (number_of 10 digits) (2 ^ 127) narrow) (rw digit (rw some refl))))

fraction_token : (digits after : List ℕ) (d : ℕ) → AreDigits 10 digits → number_of 10 digits < 2 ^ 127 → is_digit_in d 10 ≡ true → token_at (digits ++ 46 ∷ d ∷ after) ≡ Err (fault_at Float 0)
fraction_token [] after d are narrow digit = absurd are
fraction_token (b ∷ ds) after d are narrow digit =
    token_at_digit b (ds ++ 46 ∷ d ∷ after) (sym (decimal_digit b) ∙ are.0) ∙ integer_at_decimal b ds (d ∷ after) are.1 ∙ fraction_found (b ∷ ds) after d are narrow digit

-- a part of the digits, and all of them
take-append-more : (n : ℕ) (xs ys : List ℕ) → take (length xs + n) (xs ++ ys) ≡ xs ++ take n ys
take-append-more n [] ys = rw (zero-add n) refl
take-append-more n (x ∷ xs) ys =
    let e : length (x ∷ xs) + n ≡ suc (length xs + n) = omega arith in
    rw e (ap (λ (zs : List ℕ). x ∷ zs) (take-append-more n xs ys))

all_large : (base n : ℕ) (digits after : List ℕ) → 0 < base → AreDigits base digits → n ≡ number_of base digits → 2 ^ 127 ≤ n
    → nat_lt (number_of base (take (digits_len base (digits ++ after)) (digits ++ after))) (2 ^ 127) ≡ false
all_large base n digits after some are is large =
    let p : ℕ → Bool = λ x. is_digit_in x base in
    let short = Each-le p digits after (Each-run p digits are) in
    let len : digits_len base (digits ++ after) ≡ length digits + (digits_len base (digits ++ after) - length digits) = omega (arith, short) in
    let all : take (digits_len base (digits ++ after)) (digits ++ after) ≡ digits ++ take (digits_len base (digits ++ after) - length digits) after =
    ap (λ m. take m (digits ++ after)) len ∙ take-append-more (digits_len base (digits ++ after) - length digits) digits after in
    le-ltb _ (2 ^ 127) (omega (arith, is, large, number_of-le-append base digits (take (digits_len base (digits ++ after) - length digits) after) some, ap (number_of base) all))

decimal_wide : (n : ℕ) (text after : List ℕ) → AreDigits 10 text → n ≡ number_of 10 text → 2 ^ 127 ≤ n → decimal_at (text ++ after) ≡ Err (fault_at WideNumber 0)
unfolding decimal_at
decimal_wide n text after are is large = rw (all_large 10 n text after (lit< tt) are is large) refl

based_wide : (base n : ℕ) (digits after : List ℕ) → 0 < base → AreDigits base digits → n ≡ number_of base digits → 2 ^ 127 ≤ n → based_at base (digits ++ after) ≡ Err (fault_at WideNumber 0)
unfolding based_at
based_wide base n digits after some are is large =
    let p : ℕ → Bool = λ x. is_digit_in x base in
    let short = Each-le p digits after (Each-run p digits are) in
    rw (ne_eqb (digits_len base (digits ++ after)) 0 (λ e. omega (arith, e, short, length-run p p digits are)), all_large base n digits after some are is large) refl

base_some : (base letter : ℕ) → IsBase base letter → 0 < base
base_some base letter hexadecimal_base = omega arith
base_some base letter octal_base = omega arith
base_some base letter binary_base = omega arith

-- a character is a small number
scalar_small : (c : ℕ) → IsScalar c → c < 1114112
scalar_small c h = grind (arith, nat_tests)

abbrev IsSmall : Option ℕ → Type 0
IsSmall (Some c) = c < 1114112
IsSmall None = Unit {0}

if_small : (t : Bool) (x y : Option ℕ) → (t ≡ true → IsSmall x) → IsSmall y → IsSmall (if t then x else y)
if_small true x y h k = h refl
if_small false x y h k = k

or_true : (a b : Bool) → (a || b) ≡ true → (a ≡ true) ⊎ (b ≡ true)
or_true true b h = inl refl
or_true false b h = inr h

mark_small : (b : ℕ) → ((b == 92) || (b == 39) || (b == 34) || (b == 96)) ≡ true → b < 1114112
mark_small b h =
    ⊎_elim (λ k. ⊎_elim (λ l. ⊎_elim (λ m. omega (arith, eqb-true b 92 m)) (λ m. omega (arith, eqb-true b 39 m)) (or_true (b == 92) (b == 39) l)) (λ l. omega (arith, eqb-true b 34 l)) (or_true ((b == 92) || (b == 39)) (b == 34) k))
    (λ k. omega (arith, eqb-true b 96 k)) (or_true ((b == 92) || (b == 39) || (b == 34)) (b == 96) h)

escaped_small : (b : ℕ) → IsSmall (escape_of b)
unfolding escape_of
escaped_small b =
    if_small (b == 97) _ _ (λ _. lit< tt)
    (if_small (b == 98) _ _ (λ _. lit< tt)
    (if_small (b == 102) _ _ (λ _. lit< tt)
    (if_small (b == 110) _ _ (λ _. lit< tt)
    (if_small (b == 114) _ _ (λ _. lit< tt)
    (if_small (b == 116) _ _ (λ _. lit< tt)
    (if_small (b == 118) _ _ (λ _. lit< tt)
    (if_small ((b == 92) || (b == 39) || (b == 34) || (b == 96)) _ _ (mark_small b) tt)))))))

escape_small : (b c : ℕ) → escape_of b ≡ Some c → c < 1114112
escape_small b c h = subst IsSmall h (escaped_small b)

spelled_small : (c : ℕ) (text : List ℕ) → SpellsCharacter 39 c text → c < 1114112
spelled_small c text (doubled is whole) = omega (arith, is)
spelled_small c text (itself scalar quotable a b whole) = scalar_small c scalar
spelled_small c text (escaped b is whole) = escape_small b c is
spelled_small c text (hexadecimal digits are scalar number whole) = scalar_small c scalar
spelled_small c text (octal digits are scalar number whole) = scalar_small c scalar

one_digit : (b n : ℕ) → is_digit_in b 10 ≡ true → n ≡ number_of 10 (b ∷ []) → 2 ^ 127 ≤ n → ⊥
one_digit b n digit is large = omega (arith, is, large, ltb-true (digit_value b) 10 digit)

wide_token : (n : ℕ) (text after : List ℕ) → SpellsInteger n text → 2 ^ 127 ≤ n → token_at (text ++ after) ≡ Err (fault_at WideNumber 0)
wide_token n [] after (decimal are is) large = absurd are
wide_token n (b ∷ []) after (decimal are is) large = absurd (one_digit b n are.0 is large)
wide_token n (b ∷ d ∷ ds) after (decimal are is) large =
    token_at_digit b (d ∷ (ds ++ after)) (sym (decimal_digit b) ∙ are.0) ∙ integer_at_digits b d (ds ++ after) (sym (decimal_digit d) ∙ are.1.0) ∙ decimal_wide n (b ∷ d ∷ ds) after are is large
wide_token n text after (based base letter digits base_is are is whole) large =
    ap (λ (xs : List ℕ). token_at (xs ++ after)) whole ∙ token_at_digit 48 (letter ∷ (digits ++ after)) refl ∙ integer_at_based base letter (digits ++ after) base_is
    ∙ based_wide base n digits after (base_some base letter base_is) are is large
wide_token n text after (code part spells whole) large = absurd (omega (arith, large, spelled_small n part spells))

escape_code : (after : List ℕ) → SpellsNone 39 (92 ∷ after) → code_of (piece_at 39 (92 ∷ after)) ≡ Err (fault_at BadEscape 0)
escape_code after none = ⊎_elim newline other (either (begins_with 10 after))
  where
    newline : begins_with 10 after ≡ true → code_of (piece_at 39 (92 ∷ after)) ≡ Err (fault_at BadEscape 0)
    newline t = let next = begins_is 10 after t in ap (λ (xs : List ℕ). code_of (piece_at 39 (92 ∷ xs))) next.1 ∙ ap code_of (dropped_piece 39 next.0 (inl refl))

    other : begins_with 10 after ≡ false → code_of (piece_at 39 (92 ∷ after)) ≡ Err (fault_at BadEscape 0)
    other f = ap code_of (no_escape_piece 39 after (inl refl) none f)

-- every fault but a bad first byte
pub fault_found : (bytes : List ℕ) (fault : LexFault) → (0 < length bytes → FitsNone bytes → begins_with 39 bytes ≡ false → begins_with 34 bytes ≡ false → token_at bytes ≡ Err (fault_at BadByte 0)) → IsFault bytes fault → token_at bytes ≡ Err fault
fault_found bytes fault unread (no_token some none single double is) = unread some none single double ∙ ap (λ (f : LexFault). Err f) (sym is)
fault_found bytes fault unread (byte_in_item quote body after o h is) =
    item_fault_found bytes quote body after BadByte o (no_character_piece quote after o.is_quote h) ∙ ap (λ (f : LexFault). Err f) (sym is)
fault_found bytes fault unread (byte_after_zero after whole h is) =
    code_found bytes after whole ∙ ap code_of (no_character_piece 39 after (inl refl) h) ∙ ap (λ (f : LexFault). Err f) (sym is)
fault_found bytes fault unread (open_item quote body after o h is) =
    item_fault_found bytes quote body after Unclosed o (line_end_piece quote after o.is_quote h) ∙ ap (λ (f : LexFault). Err f) (sym is)
fault_found bytes fault unread (escape_in_item quote body after o none apart is) =
    item_fault_found bytes quote body (92 ∷ after) BadEscape o (no_escape_piece quote after o.is_quote none apart) ∙ ap (λ (f : LexFault). Err f) (sym is)
fault_found bytes fault unread (escape_after_zero after whole none is) = code_found bytes (92 ∷ after) whole ∙ escape_code after none ∙ ap (λ (f : LexFault). Err f) (sym is)
fault_found bytes fault unread (fraction digits after d are narrow digit whole is) =
    ap token_at whole ∙ fraction_token digits after d are narrow digit ∙ ap (λ (f : LexFault). Err f) (sym is)
fault_found bytes fault unread (wide n text after spells large whole is) = ap token_at whole ∙ wide_token n text after spells large ∙ ap (λ (f : LexFault). Err f) (sym is)
