-- The piece at the front, where a form of a character, or none, stands there.
use Rattle.std.proofs.Common.{◌≡◌, ◌≢◌, ℕ, ◌+◌, ◌<◌, ◌≤◌, ◌==◌, ◌&&◌, nat_le, Bool, true, false, List, [], ◌∷◌, ◌++◌, length, take, drop, Some, None, refl, sym, ◌∙◌, ap, subst, ⊎_elim, append_assoc, append-nil, length-append, eq-eqb, arith}
use Rattle.std.specs.Char.{IsScalar, encode_utf8, is_digit}
use Rattle.std.proofs.lemmas.Bool.{ne_eqb, lt-ltb, le-leb, leb-true}
use Rattle.std.proofs.lemmas.List.{take_at, drop_at}
use Rattle.std.proofs.lemmas.Str.{length-encode, char_from_byte}
use Rattle.prolog_tokens.specs.Bytes.{begins_with}
use Rattle.prolog_tokens.specs.Numbers.{digits_len, number_of}
use Rattle.prolog_tokens.specs.Characters.{character_at, is_quotable}
use Rattle.prolog_tokens.specs.Pieces.{escape_of, number_escape, escape_at, piece_at}
use Rattle.prolog_tokens.specs.Forms.{AreDigits, SpellsCharacter, doubled, itself, escaped, hexadecimal, octal, SpellsNone, IsLineEnd, IsQuote, IsNoCharacter}
use Rattle.prolog_tokens.specs.declared.piece.Piece.{Piece}
use Rattle.prolog_tokens.specs.declared.piece.Piece.TheVariants.{Character, Dropped, Closing, Fault}
use Rattle.prolog_tokens.specs.declared.fault.LexKind.TheVariants.{BadByte, Unclosed, BadEscape, Float, WideNumber}
use Rattle.prolog_tokens.proofs.CharacterLemmas.{either, and_true, encoded, character_at_encoded}
use Rattle.prolog_tokens.proofs.NumberLemmas.{octal_digit}
use Rattle.prolog_tokens.proofs.RunLemmas.{prefix_len-Each, Each-run, length-run}
use Rattle.prolog_tokens.proofs.PieceLemmas.{IsPiece, piece_is}

pub quote_small : (quote : ℕ) → IsQuote quote → quote < 128
quote_small quote q = ⊎_elim (λ e. omega (arith, e)) (λ e. omega (arith, e)) q

-- a backslash is not a quote, and neither is a newline
backslash_apart : (quote : ℕ) → IsQuote quote → (92 == quote) ≡ false
backslash_apart quote q = ⊎_elim (λ e. rw e refl) (λ e. rw e refl) q

newline_apart : (quote : ℕ) → IsQuote quote → (10 == quote) ≡ false
newline_apart quote q = ⊎_elim (λ e. rw e refl) (λ e. rw e refl) q

-- after a backslash
piece_at_backslash : (quote : ℕ) (bs : List ℕ) → IsQuote quote → piece_at quote (92 ∷ bs) ≡ escape_at bs
unfolding piece_at
piece_at_backslash quote bs q = rw (backslash_apart quote q) refl

number_escape_found : (base before c : ℕ) (digits rest : List ℕ) → is_digit 92 base ≡ false → AreDigits base digits → IsScalar c → c ≡ number_of base digits
    → number_escape base before ((digits ++ 92 ∷ []) ++ rest) ≡ Character c (before + length digits + 1)
unfolding number_escape
number_escape_found base before c digits rest stops are scalar is =
    let p : ℕ → Bool = λ b. is_digit b base in
    let whole : (digits ++ 92 ∷ []) ++ rest ≡ digits ++ 92 ∷ rest = append_assoc digits (92 ∷ []) rest in
    let len : digits_len base (digits ++ 92 ∷ rest) ≡ length digits = prefix_len-Each p digits (92 ∷ rest) (Each-run p digits are) stops in
    let front : take (length digits) (digits ++ 92 ∷ rest) ≡ digits = take_at digits (92 ∷ rest) (length digits) refl in
    let back : drop (length digits) (digits ++ 92 ∷ rest) ≡ 92 ∷ rest = drop_at digits (92 ∷ rest) (length digits) refl in
    let some = lt-ltb 0 (length digits) (length-run p p digits are) in
    rw whole (rw len (rw (front, back) (rw (some, ← is, scalar) refl)))

-- the byte after the backslash of a short escape
short_not_ten : (b c : ℕ) → escape_of b ≡ Some c → (b == 10) ≡ false
unfolding escape_of
short_not_ten b c is = ne_eqb b 10 (λ e. let h = rw e at is in cc)

short_not_x : (b c : ℕ) → escape_of b ≡ Some c → (b == 120) ≡ false
unfolding escape_of
short_not_x b c is = ne_eqb b 120 (λ e. let h = rw e at is in cc)

octal_no_short : (b : ℕ) → 48 ≤ b → b ≤ 55 → escape_of b ≡ None
unfolding escape_of
octal_no_short b low high =
    rw (
      ne_eqb b 97 (λ e. omega (arith, e)),
      ne_eqb b 98 (λ e. omega (arith, e)),
      ne_eqb b 102 (λ e. omega (arith, e)),
      ne_eqb b 110 (λ e. omega (arith, e)),
      ne_eqb b 114 (λ e. omega (arith, e)),
      ne_eqb b 116 (λ e. omega (arith, e)),
      ne_eqb b 118 (λ e. omega (arith, e)),
      ne_eqb b 92 (λ e. omega (arith, e)),
      ne_eqb b 39 (λ e. omega (arith, e)),
      ne_eqb b 34 (λ e. omega (arith, e)),
      ne_eqb b 96 (λ e. omega (arith, e)),
    ) refl

short_not_octal : (b c : ℕ) → escape_of b ≡ Some c → (nat_le 48 b && nat_le b 55) ≡ false
short_not_octal b c is = ⊎_elim (λ t. absurd (octal_too t)) (λ f. f) (either (nat_le 48 b && nat_le b 55))
  where
    octal_too : (nat_le 48 b && nat_le b 55) ≡ true → ⊥
    octal_too t =
        let range = and_true (nat_le 48 b) (nat_le b 55) t in
        let none = octal_no_short b (leb-true 48 b range.0) (leb-true b 55 range.1) in
        let both = sym none ∙ is in
        cc

-- the first byte of a character, if it is ASCII, is the character
first_is : (c first : ℕ) (others : List ℕ) → encode_utf8 c ≡ first ∷ others → first < 128 → c ≡ first
first_is c first others is small = char_from_byte (first ∷ others) [] c (sym is ∙ sym (append-nil (encode_utf8 c))) small (omega arith)

itself_piece : (quote c : ℕ) (rest : List ℕ) → IsQuote quote → IsScalar c → is_quotable c ≡ true → c ≢ quote → c ≢ 92 → piece_at quote (encode_utf8 c ++ rest) ≡ Character c (length (encode_utf8 c))
unfolding piece_at
itself_piece quote c rest q scalar quotable not_quote not_backslash =
    let e = encoded c in
    let found : character_at (e.first ∷ (e.others ++ rest)) ≡ Some c = ap (λ (xs : List ℕ). character_at (xs ++ rest)) (sym e.whole) ∙ character_at_encoded c rest scalar in
    let is = first_is c e.first e.others e.whole in
    let no_quote : (e.first == quote) ≡ false = ne_eqb e.first quote (λ h. not_quote (is (omega (arith, h, quote_small quote q)) ∙ h)) in
    let no_newline : (e.first == 10) ≡ false = ne_eqb e.first 10 (λ h. newline (is (omega (arith, h)) ∙ h)) in
    let no_backslash : (e.first == 92) ≡ false = ne_eqb e.first 92 (λ h. not_backslash (is (omega (arith, h)) ∙ h)) in
    rw (length-encode c) (rw e.whole (rw (no_quote, no_newline, no_backslash, found, quotable) refl))
  where
    newline : c ≡ 10 → ⊥
    newline h = let both = rw h at quotable in cc

pub spelled_piece : (quote c : ℕ) (text rest : List ℕ) → IsQuote quote → SpellsCharacter quote c text → piece_at quote (text ++ rest) ≡ Character c (length text)
unfolding piece_at escape_at
spelled_piece quote c text rest q (doubled is whole) = rw (whole, is) (rw (eq-eqb quote quote refl) refl)
spelled_piece quote c text rest q (itself scalar quotable not_quote not_backslash whole) = rw whole (itself_piece quote c rest q scalar quotable not_quote not_backslash)
spelled_piece quote c text rest q (escaped b is whole) =
    rw whole (piece_at_backslash quote (b ∷ rest) q ∙ rw (short_not_ten b c is, short_not_x b c is, short_not_octal b c is, is) refl)
spelled_piece quote c text rest q (hexadecimal digits are scalar number whole) =
    rw whole (piece_at_backslash quote (120 ∷ ((digits ++ 92 ∷ []) ++ rest)) q ∙ number_escape_found 16 2 c digits rest refl are scalar number
    ∙ ap (λ n. Character c n) (omega (arith, length-append digits (92 ∷ []))))
spelled_piece quote c text rest q (octal [] are scalar number whole) = absurd are
spelled_piece quote c text rest q (octal (d ∷ ds) are scalar number whole) =
    let range = octal_digit d are.0 in
    rw whole (piece_at_backslash quote ((d ∷ ds ++ 92 ∷ []) ++ rest) q
    ∙ rw (ne_eqb d 10 (λ e. omega (arith, e, range)), ne_eqb d 120 (λ e. omega (arith, e, range)), le-leb 48 d range.0, le-leb d 55 range.1) refl
    ∙ number_escape_found 8 1 c (d ∷ ds) rest refl are scalar number
    ∙ ap (λ n. Character c n) (omega (arith, length-append ds (92 ∷ []))))

-- where the piece is not a character, none is spelled
pub spells_none : (quote : ℕ) (bs : List ℕ) (p : Piece) → IsQuote quote → piece_at quote bs ≡ p → ((c n : ℕ) → p ≡ Character c n → ⊥) → SpellsNone quote bs
spells_none quote bs p q is other c text after whole spells = other c (length text) (sym is ∙ ap (piece_at quote) whole ∙ spelled_piece quote c text after q spells)

-- a bad byte is not a character
pub bad_byte : (quote : ℕ) (bs : List ℕ) → IsQuote quote → piece_at quote bs ≡ Fault BadByte → IsNoCharacter quote bs
bad_byte quote bs q is = by_bytes bs (spells_none quote bs (Fault BadByte) q is (λ c n e. cc)) (subst (IsPiece quote bs) is (piece_is quote bs (quote_small quote q)))
  where
    by_bytes : (xs : List ℕ) → SpellsNone quote xs → IsPiece quote xs (Fault BadByte) → IsNoCharacter quote xs
    by_bytes [] none h = let nil = h.2 in cc
    by_bytes (x ∷ xs) none h =
        let same : x ≡ h.0 = cc (h.2) in
        ((λ e. h.3 (sym same ∙ e)), (λ e. h.4 (sym same ∙ e)), (λ e. h.5 (sym same ∙ e)), none)

-- a byte that is not a character is a bad byte
pub no_character_piece : (quote : ℕ) (bs : List ℕ) → IsQuote quote → IsNoCharacter quote bs → piece_at quote bs ≡ Fault BadByte
no_character_piece quote [] q h = absurd h
no_character_piece quote (b ∷ bs) q h = by_piece (piece_at quote (b ∷ bs)) refl (piece_is quote (b ∷ bs) (quote_small quote q))
  where
    by_piece : (p : Piece) → piece_at quote (b ∷ bs) ≡ p → IsPiece quote (b ∷ bs) p → piece_at quote (b ∷ bs) ≡ Fault BadByte
    by_piece (Character c n) e k = absurd (h.3 c k.text k.rest k.whole k.spells)
    by_piece Dropped e k = absurd (h.1 (cc (k.1)))
    by_piece Closing e k = absurd (h.0 (cc (k.1)))
    by_piece (Fault BadByte) e k = e
    by_piece (Fault Unclosed) e k = absurd (h.2 k)
    by_piece (Fault BadEscape) e k = absurd (h.1 (cc (k.1)))
    by_piece (Fault Float) e k = absurd k
    by_piece (Fault WideNumber) e k = absurd k

-- a backslash that begins no escape
pub no_escape_piece : (quote : ℕ) (bs : List ℕ) → IsQuote quote → SpellsNone quote (92 ∷ bs) → begins_with 10 bs ≡ false → piece_at quote (92 ∷ bs) ≡ Fault BadEscape
no_escape_piece quote bs q none apart = by_piece (piece_at quote (92 ∷ bs)) refl (piece_is quote (92 ∷ bs) (quote_small quote q))
  where
    by_piece : (p : Piece) → piece_at quote (92 ∷ bs) ≡ p → IsPiece quote (92 ∷ bs) p → piece_at quote (92 ∷ bs) ≡ Fault BadEscape
    by_piece (Character c n) e k = absurd (none c k.text k.rest k.whole k.spells)
    by_piece Dropped e k = let rest : bs ≡ 10 ∷ k.0 = cc (k.1) in let both = sym apart ∙ ap (begins_with 10) rest in cc
    by_piece Closing e k = let same : 92 ≡ quote = cc (k.1) in let both = sym (backslash_apart quote q) ∙ eq-eqb 92 quote same in cc
    by_piece (Fault BadByte) e k = let same : 92 ≡ k.0 = cc (k.2) in absurd (k.4 (sym same))
    by_piece (Fault Unclosed) e k = cc
    by_piece (Fault BadEscape) e k = e
    by_piece (Fault Float) e k = absurd k
    by_piece (Fault WideNumber) e k = absurd k

-- the end of a line or of the text
pub line_end_piece : (quote : ℕ) (bs : List ℕ) → IsQuote quote → IsLineEnd bs → piece_at quote bs ≡ Fault Unclosed
unfolding piece_at
line_end_piece quote [] q h = refl
line_end_piece quote (b ∷ bs) q h = rw h (rw (newline_apart quote q) refl)

-- a quote that closes the item
pub closing_piece : (quote : ℕ) (bs : List ℕ) → begins_with quote bs ≡ false → piece_at quote (quote ∷ bs) ≡ Closing
unfolding piece_at
closing_piece quote bs apart = rw (eq-eqb quote quote refl, apart) refl

-- a newline after a backslash
pub dropped_piece : (quote : ℕ) (bs : List ℕ) → IsQuote quote → piece_at quote (92 ∷ 10 ∷ bs) ≡ Dropped
unfolding escape_at
dropped_piece quote bs q = piece_at_backslash quote (10 ∷ bs) q
