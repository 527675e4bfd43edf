-- What a piece of an item is, by the forms of characters.
use Rattle.std.proofs.Common.{◌≡◌, ◌≢◌, ℕ, ◌+◌, ◌<◌, ◌≤◌, ◌==◌, ◌&&◌, nat_lt, nat_le, Bool, true, false, List, [], ◌∷◌, ◌++◌, length, take, drop, Option, Some, None, refl, sym, ◌∙◌, ap, subst, ⊎_elim, append_assoc, length-append, arith, lit<}
use Rattle.std.proofs.Math.Utf8.{scalar}
use Rattle.std.specs.Char.{IsScalar, encode_utf8, is_digit}
use Rattle.std.specs.Str.{all_scalars}
use Rattle.std.proofs.lemmas.Bool.{eqb-true, eqb-false, ltb-true}
use Rattle.std.proofs.lemmas.List.{take-append-drop, length-take-le}
use Rattle.std.proofs.lemmas.List.Sums.{prefix_len-le-length}
use Rattle.std.proofs.lemmas.Str.{length-encode, encode_ascii}
use Rattle.prolog_tokens.specs.Bytes.{begins_with}
use Rattle.prolog_tokens.specs.Numbers.{digits_len, number_of}
use Rattle.prolog_tokens.specs.Characters.{character_at, is_quotable}
use Rattle.prolog_tokens.specs.Pieces.{escape_of, number_escape, escape_at, short_escape, plain_character, closing_at, piece_at}
use Rattle.prolog_tokens.specs.Forms.{AreDigits, SpellsCharacter, doubled, itself, escaped, hexadecimal, octal, IsLineEnd}
use Rattle.prolog_tokens.specs.declared.piece.Piece.{Piece}
use Rattle.prolog_tokens.specs.declared.piece.Piece.TheVariants.{Character, Dropped, Closing, Fault}
use Rattle.prolog_tokens.specs.declared.fault.LexKind.TheVariants.{BadByte, Unclosed, BadEscape, Float, WideNumber}
use Rattle.prolog_tokens.proofs.CharacterLemmas.{either, and_true, character_at_found}
use Rattle.prolog_tokens.proofs.RunLemmas.{IsRun-prefix}

-- a text at the front spells the character in the given number of bytes
pub record Spelled (quote : ℕ) (bs : List ℕ) (c n : ℕ) : Type 0 where
  pub text : List ℕ
  pub rest : List ℕ
  pub whole : bs ≡ text ++ rest
  pub count : length text ≡ n
  pub spells : SpellsCharacter quote c text

-- what a piece says of the bytes that it stands in front of
abbrev pub IsPiece : ℕ → List ℕ → Piece → Type 0
IsPiece quote bs (Character c n) = Spelled quote bs c n
IsPiece quote bs Dropped = (rest : List ℕ) × (bs ≡ 92 ∷ 10 ∷ rest)
IsPiece quote bs Closing = (rest : List ℕ) × (bs ≡ quote ∷ rest) × (begins_with quote rest ≡ false)
IsPiece quote bs (Fault Unclosed) = IsLineEnd bs
IsPiece quote bs (Fault BadEscape) = (rest : List ℕ) × (bs ≡ 92 ∷ rest) × (begins_with 10 rest ≡ false)
IsPiece quote bs (Fault BadByte) = (b : ℕ) × (rest : List ℕ) × (bs ≡ b ∷ rest) × (b ≢ quote) × (b ≢ 92) × (b ≢ 10)
IsPiece quote bs (Fault kind) = ⊥

-- an escape by number
pub record ByNumber (base before : ℕ) (bs : List ℕ) (c n : ℕ) : Type 0 where
  pub digits : List ℕ
  pub rest : List ℕ
  pub are_digits : AreDigits base digits
  pub is_scalar : IsScalar c
  pub number : c ≡ number_of base digits
  pub whole : bs ≡ digits ++ 92 ∷ rest
  pub count : n ≡ before + length digits + 1

abbrev IsByNumber : ℕ → ℕ → List ℕ → Piece → Type 0
IsByNumber base before bs (Character c n) = ByNumber base before bs c n
IsByNumber base before bs (Fault BadEscape) = Unit {0}
IsByNumber base before bs p = ⊥

-- bytes that begin with one
pub begins_is : (c : ℕ) (bs : List ℕ) → begins_with c bs ≡ true → (rest : List ℕ) × (bs ≡ c ∷ rest)
begins_is c [] h = cc
begins_is c (b ∷ bs) h = (bs, ap (λ x. x ∷ bs) (eqb-true b c h))

is_by_number : (base before : ℕ) (bs : List ℕ) → IsByNumber base before bs (number_escape base before bs)
unfolding number_escape
is_by_number base before bs = ⊎_elim (λ t. found t) (λ f. none f) (either (test))
  where
    test : Bool
    test = nat_lt 0 (digits_len base bs) && begins_with 92 (drop (digits_len base bs) bs) && all_scalars (number_of base (take (digits_len base bs) bs) ∷ [])

    found : test ≡ true → IsByNumber base before bs (number_escape base before bs)
    found t =
        let len = digits_len base bs in
        let parts = and_true (nat_lt 0 len && begins_with 92 (drop len bs)) (all_scalars (number_of base (take len bs) ∷ [])) t in
        let parts' = and_true (nat_lt 0 len) (begins_with 92 (drop len bs)) parts.0 in
        let closed = begins_is 92 (drop len bs) parts'.1 in
        let short : digits_len base bs ≤ length bs = prefix_len-le-length (λ b. is_digit b base) bs in
        rw t (record {
          digits = take len bs;
          rest = closed.0;
          are_digits = IsRun-prefix (λ b. is_digit b base) bs (ltb-true 0 (digits_len base bs) parts'.0);
          is_scalar = (and_true (scalar (number_of base (take len bs))) true parts.1).0;
          number = refl;
          whole = sym (take-append-drop len bs) ∙ ap (λ (xs : List ℕ). take len bs ++ xs) closed.1;
          count = omega (arith, length-take-le len bs short);
        })

    none : test ≡ false → IsByNumber base before bs (number_escape base before bs)
    none f = rw f tt

-- what an escape by number spells
from_hexadecimal : (quote : ℕ) (bs : List ℕ) (p : Piece) → IsByNumber 16 2 bs p → IsPiece quote (92 ∷ 120 ∷ bs) p
from_hexadecimal quote bs (Character c n) h = record {
  text = 92 ∷ 120 ∷ (h.digits ++ 92 ∷ []);
  rest = h.rest;
  whole = ap (λ (xs : List ℕ). 92 ∷ 120 ∷ xs) (h.whole ∙ sym (append_assoc h.digits (92 ∷ []) h.rest));
  count = omega (arith, h.count, length-append h.digits (92 ∷ []));
  spells = hexadecimal h.digits h.are_digits h.is_scalar h.number refl;
}
from_hexadecimal quote bs (Fault BadEscape) h = (120 ∷ bs, refl, refl)
from_hexadecimal quote bs Dropped h = absurd h
from_hexadecimal quote bs Closing h = absurd h
from_hexadecimal quote bs (Fault BadByte) h = absurd h
from_hexadecimal quote bs (Fault Unclosed) h = absurd h
from_hexadecimal quote bs (Fault Float) h = absurd h
from_hexadecimal quote bs (Fault WideNumber) h = absurd h

from_octal : (quote : ℕ) (bs : List ℕ) (p : Piece) → begins_with 10 bs ≡ false → IsByNumber 8 1 bs p → IsPiece quote (92 ∷ bs) p
from_octal quote bs (Character c n) apart h = record {
  text = 92 ∷ (h.digits ++ 92 ∷ []);
  rest = h.rest;
  whole = ap (λ (xs : List ℕ). 92 ∷ xs) (h.whole ∙ sym (append_assoc h.digits (92 ∷ []) h.rest));
  count = omega (arith, h.count, length-append h.digits (92 ∷ []));
  spells = octal h.digits h.are_digits h.is_scalar h.number refl;
}
from_octal quote bs (Fault BadEscape) apart h = (bs, refl, apart)
from_octal quote bs Dropped apart h = absurd h
from_octal quote bs Closing apart h = absurd h
from_octal quote bs (Fault BadByte) apart h = absurd h
from_octal quote bs (Fault Unclosed) apart h = absurd h
from_octal quote bs (Fault Float) apart h = absurd h
from_octal quote bs (Fault WideNumber) apart h = absurd h

from_short : (quote b : ℕ) (bs : List ℕ) (o : Option ℕ) → escape_of b ≡ o → (b == 10) ≡ false → IsPiece quote (92 ∷ b ∷ bs) (short_escape o)
from_short quote b bs (Some c) is apart = record { text = 92 ∷ b ∷ []; rest = bs; whole = refl; count = refl; spells = escaped b is refl }
from_short quote b bs None is apart = (b ∷ bs, refl, apart)

-- the piece that a backslash begins
escape_is : (quote : ℕ) (bs : List ℕ) → IsPiece quote (92 ∷ bs) (escape_at bs)
unfolding escape_at
escape_is quote [] = ([], refl, refl)
escape_is quote (b ∷ bs) = ⊎_elim newline (λ n. ⊎_elim (by_x n) (λ x. ⊎_elim (by_digit n x) (other n x) (either (nat_le 48 b && nat_le b 55))) (either (b == 120))) (either (b == 10))
  where
    newline : (b == 10) ≡ true → IsPiece quote (92 ∷ b ∷ bs) (escape_at (b ∷ bs))
    newline n = rw n (bs, ap (λ x. 92 ∷ x ∷ bs) (eqb-true b 10 n))

    by_x : (b == 10) ≡ false → (b == 120) ≡ true → IsPiece quote (92 ∷ b ∷ bs) (escape_at (b ∷ bs))
    by_x n x =
        let P : ℕ → Type 0 = λ y. IsPiece quote (92 ∷ y ∷ bs) (number_escape 16 2 bs) in
        rw (n, x) (subst P (sym (eqb-true b 120 x)) (from_hexadecimal quote bs (number_escape 16 2 bs) (is_by_number 16 2 bs)))

    by_digit : (b == 10) ≡ false → (b == 120) ≡ false → (nat_le 48 b && nat_le b 55) ≡ true → IsPiece quote (92 ∷ b ∷ bs) (escape_at (b ∷ bs))
    by_digit n x d = rw (n, x, d) (from_octal quote (b ∷ bs) (number_escape 8 1 (b ∷ bs)) n (is_by_number 8 1 (b ∷ bs)))

    other : (b == 10) ≡ false → (b == 120) ≡ false → (nat_le 48 b && nat_le b 55) ≡ false → IsPiece quote (92 ∷ b ∷ bs) (escape_at (b ∷ bs))
    other n x d = rw (n, x, d) (from_short quote b bs (escape_of b) refl n)

-- a quote
closing_is : (quote : ℕ) (bs : List ℕ) → IsPiece quote (quote ∷ bs) (closing_at quote bs)
closing_is quote bs = ⊎_elim two one (either (begins_with quote bs))
  where
    two : begins_with quote bs ≡ true → IsPiece quote (quote ∷ bs) (closing_at quote bs)
    two t =
        let next = begins_is quote bs t in
        rw t (record { text = quote ∷ quote ∷ []; rest = next.0; whole = ap (λ (xs : List ℕ). quote ∷ xs) next.1; count = refl; spells = doubled refl refl })

    one : begins_with quote bs ≡ false → IsPiece quote (quote ∷ bs) (closing_at quote bs)
    one f = rw f (bs, refl, f)

-- a character of ASCII is the first byte
first_byte : (b d c : ℕ) (bs rest : List ℕ) → b ∷ bs ≡ encode_utf8 c ++ rest → c ≡ d → d < 128 → b ≡ d
first_byte b d c bs rest whole is small =
    let e : encode_utf8 d ≡ d ∷ [] = encode_ascii d small in
    let whole' = whole ∙ ap (λ x. encode_utf8 x ++ rest) is ∙ ap (λ (xs : List ℕ). xs ++ rest) e in
    cc

-- a character for itself
character_is : (quote b : ℕ) (bs : List ℕ) → quote < 128 → b ≢ quote → b ≢ 92 → b ≢ 10 → (o : Option ℕ) → character_at (b ∷ bs) ≡ o → IsPiece quote (b ∷ bs) (plain_character o)
character_is quote b bs small q s n None is = (b, bs, refl, q, s, n)
character_is quote b bs small q s n (Some c) is = ⊎_elim stands fails (either (is_quotable c))
  where
    stands : is_quotable c ≡ true → IsPiece quote (b ∷ bs) (plain_character (Some c))
    stands t =
        let found = character_at_found (b ∷ bs) c is in
        rw t (record {
          text = encode_utf8 c;
          rest = found.rest;
          whole = found.whole;
          count = length-encode c;
          spells = itself found.is_scalar t (λ e. q (first_byte b quote c bs found.rest found.whole e small)) (λ e. s (first_byte b 92 c bs found.rest found.whole e (lit< tt))) refl;
        })

    fails : is_quotable c ≡ false → IsPiece quote (b ∷ bs) (plain_character (Some c))
    fails f = rw f (b, bs, refl, q, s, n)

-- what the piece at the front is
pub piece_is : (quote : ℕ) (bs : List ℕ) → quote < 128 → IsPiece quote bs (piece_at quote bs)
unfolding piece_at
piece_is quote [] small = tt
piece_is quote (b ∷ bs) small = ⊎_elim by_quote (λ q. ⊎_elim (by_newline q) (λ n. ⊎_elim (by_backslash q n) (other q n) (either (b == 92))) (either (b == 10))) (either (b == quote))
  where
    by_quote : (b == quote) ≡ true → IsPiece quote (b ∷ bs) (piece_at quote (b ∷ bs))
    by_quote q =
        let P : ℕ → Type 0 = λ x. IsPiece quote (x ∷ bs) (closing_at quote bs) in
        rw q (subst P (sym (eqb-true b quote q)) (closing_is quote bs))

    by_newline : (b == quote) ≡ false → (b == 10) ≡ true → IsPiece quote (b ∷ bs) (piece_at quote (b ∷ bs))
    by_newline q n = rw (q, n) (eqb-true b 10 n)

    by_backslash : (b == quote) ≡ false → (b == 10) ≡ false → (b == 92) ≡ true → IsPiece quote (b ∷ bs) (piece_at quote (b ∷ bs))
    by_backslash q n s =
        let P : ℕ → Type 0 = λ x. IsPiece quote (x ∷ bs) (escape_at bs) in
        rw (q, n, s) (subst P (sym (eqb-true b 92 s)) (escape_is quote bs))

    other : (b == quote) ≡ false → (b == 10) ≡ false → (b == 92) ≡ false → IsPiece quote (b ∷ bs) (piece_at quote (b ∷ bs))
    other q n s = rw (q, n, s) (character_is quote b bs small (eqb-false b quote q) (eqb-false b 92 s) (eqb-false b 10 n) (character_at (b ∷ bs)) refl)
