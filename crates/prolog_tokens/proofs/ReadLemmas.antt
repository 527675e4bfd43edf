-- What the computed token says of the bytes.
use Rattle.std.proofs.Common.{◌≡◌, ℕ, zero, suc, ◌+◌, ◌<◌, ◌^◌, ◌==◌, ◌&&◌, ◌||◌, nat_lt, Bool, true, false, List, [], ◌∷◌, ◌++◌, length, take, drop, Result, Ok, Err, ◌⊎◌, inl, inr, ⊎_elim, refl, sym, ◌∙◌, ap, subst, append_assoc, length-append, arith, lit<, if◌then◌else◌}
use Rattle.std.specs.Char.{is_digit as is_digit_in}
use Rattle.std.specs.List.{prefix_len}
use Rattle.std.proofs.lemmas.Bool.{eqb-true, eqb-false, ltb-true, ltb-false}
use Rattle.std.proofs.lemmas.List.{take-append-drop, length-take-le}
use Rattle.std.proofs.lemmas.List.Sums.{prefix_len-le-length}
use Rattle.prolog_tokens.specs.Bytes.{is_small, is_capital, is_digit, is_word, is_graphic, begins_with, begins_comment, ends_clause}
use Rattle.prolog_tokens.specs.Places.{fault_at}
use Rattle.prolog_tokens.specs.Numbers.{digits_len, number_of}
use Rattle.prolog_tokens.specs.Pieces.{piece_at}
use Rattle.prolog_tokens.specs.Items.{item_len}
use Rattle.prolog_tokens.specs.Tokens.{Answer, integer, zero_alone, is_fraction, decimal_at, based_at, code_of, integer_at, item_of, item_fault, mark_at, token_at}
use Rattle.prolog_tokens.specs.Forms.{IsBody, begins_graphic, IsBase, hexadecimal_base, octal_base, binary_base, SpellsInteger, decimal, based, code, IsOfForm, IsItem, IsQuote, IsFault, byte_in_item, byte_after_zero, open_item, escape_in_item, escape_after_zero, fraction, wide}
use Rattle.prolog_tokens.specs.declared.piece.Piece.{Piece}
use Rattle.prolog_tokens.specs.declared.piece.Piece.TheVariants.{Character, Dropped, Closing, Fault}
use Rattle.prolog_tokens.specs.declared.token.TokenKind.{TokenKind}
use Rattle.prolog_tokens.specs.declared.token.TokenKind.TheVariants as kind
use Rattle.prolog_tokens.specs.declared.fault.LexKind.{LexKind}
use Rattle.prolog_tokens.specs.declared.fault.LexKind.TheVariants.{BadByte, Unclosed, BadEscape, Float, WideNumber}
use Rattle.prolog_tokens.specs.declared.fault.LexFault.{LexFault}
use Rattle.prolog_tokens.proofs.CharacterLemmas.{either, and_true}
use Rattle.prolog_tokens.proofs.NumberLemmas.{decimal_digit}
use Rattle.prolog_tokens.proofs.RunLemmas.{IsRun-prefix, Each-prefix, begins, begins-prefix}
use Rattle.prolog_tokens.proofs.PieceLemmas.{IsPiece, piece_is, begins_is}
use Rattle.prolog_tokens.proofs.SpelledLemmas.{quote_small, spells_none, bad_byte}
use Rattle.prolog_tokens.proofs.BodyLemmas.{IsItemLen, item_is}

-- a text of a form at the front, of that length
pub record IsToken (bytes : List ℕ) (t : TokenKind × ℕ) : Type 0 where
  pub text : List ℕ
  pub after : List ℕ
  pub whole : bytes ≡ text ++ after
  pub count : length text ≡ t.1
  pub of_form : IsOfForm t.0 text after

-- the first byte is bad, and no quote
pub record IsUnread (bytes : List ℕ) (fault : LexFault) : Type 0 where
  pub is : fault ≡ fault_at BadByte 0
  pub single : begins_with 39 bytes ≡ false
  pub double : begins_with 34 bytes ≡ false

-- what an answer says
abbrev pub IsRead : List ℕ → Answer → Type 0
IsRead bytes (Ok t) = IsToken bytes t
IsRead bytes (Err fault) = IsFault bytes fault ⊎ IsUnread bytes fault

-- the integer 0 alone
zero_is : (rest : List ℕ) → IsRead (48 ∷ rest) zero_alone
zero_is rest = record { text = 48 ∷ []; after = rest; whole = refl; count = refl; of_form = (0, refl, decimal (refl, tt) refl) }

-- an integer, if its text spells it
integer_is : (bytes text after : List ℕ) (number len : ℕ) → bytes ≡ text ++ after → length text ≡ len → SpellsInteger number text → IsRead bytes (integer number len)
integer_is bytes text after number len whole count spells = ⊎_elim narrow large (either (nat_lt number (2 ^ 127)))
  where
    narrow : nat_lt number (2 ^ 127) ≡ true → IsRead bytes (integer number len)
    narrow t = rw t (record { text = text; after = after; whole = whole; count = count; of_form = (number, refl, spells) })

    large : nat_lt number (2 ^ 127) ≡ false → IsRead bytes (integer number len)
    large f = rw f (inl (wide number text after spells (ltb-false number (2 ^ 127) f) whole refl))

-- a dot and a digit
fraction_is : (bs : List ℕ) → is_fraction bs ≡ true → (d : ℕ) × (rest : List ℕ) × (bs ≡ 46 ∷ d ∷ rest) × (is_digit_in d 10 ≡ true)
fraction_is [] h = cc
fraction_is (b ∷ bs) h =
    let parts = and_true (b == 46) (nat_lt 0 (digits_len 10 bs)) h in
    by_rest bs (eqb-true b 46 parts.0) parts.1
  where
    by_rest : (xs : List ℕ) → b ≡ 46 → nat_lt 0 (digits_len 10 xs) ≡ true → (d : ℕ) × (rest : List ℕ) × (b ∷ xs ≡ 46 ∷ d ∷ rest) × (is_digit_in d 10 ≡ true)
    by_rest [] e t = cc
    by_rest (d ∷ rest) e t = (d, rest, ap (λ x. x ∷ d ∷ rest) e, ⊎_elim (λ y. y) (λ n. absurd (none n)) (either (is_digit_in d 10)))
      where
        none : is_digit_in d 10 ≡ false → ⊥
        none n = let h' = rw n at t in cc

-- the decimal digits at the front
abbrev digits_of : ℕ → List ℕ → List ℕ
digits_of base bs = take (digits_len base bs) bs

digits_split : (base : ℕ) (bs : List ℕ) → bs ≡ digits_of base bs ++ drop (digits_len base bs) bs
digits_split base bs = sym (take-append-drop (digits_len base bs) bs)

length-digits : (base : ℕ) (bs : List ℕ) → length (digits_of base bs) ≡ digits_len base bs
length-digits base bs = length-take-le (digits_len base bs) bs (prefix_len-le-length (λ b. is_digit_in b base) bs)

decimal_is : (bs : List ℕ) → 0 < digits_len 10 bs → IsRead bs (decimal_at bs)
unfolding decimal_at
decimal_is bs some = ⊎_elim broken whole (either (nat_lt (number_of 10 (digits_of 10 bs)) (2 ^ 127) && is_fraction (drop (digits_len 10 bs) bs)))
  where
    broken : (nat_lt (number_of 10 (digits_of 10 bs)) (2 ^ 127) && is_fraction (drop (digits_len 10 bs) bs)) ≡ true → IsRead bs (decimal_at bs)
    broken t =
        let parts = and_true (nat_lt (number_of 10 (digits_of 10 bs)) (2 ^ 127)) (is_fraction (drop (digits_len 10 bs) bs)) t in
        let dot = fraction_is (drop (digits_len 10 bs) bs) parts.1 in
        rw t (inl (fraction (digits_of 10 bs) dot.1 dot.0 (IsRun-prefix (λ b. is_digit_in b 10) bs some) (ltb-true (number_of 10 (digits_of 10 bs)) (2 ^ 127) parts.0) dot.3
        (digits_split 10 bs ∙ ap (λ (xs : List ℕ). digits_of 10 bs ++ xs) dot.2) refl))

    whole : (nat_lt (number_of 10 (digits_of 10 bs)) (2 ^ 127) && is_fraction (drop (digits_len 10 bs) bs)) ≡ false → IsRead bs (decimal_at bs)
    whole f = rw f (integer_is bs (digits_of 10 bs) (drop (digits_len 10 bs) bs) (number_of 10 (digits_of 10 bs)) (digits_len 10 bs) (digits_split 10 bs) (length-digits 10 bs)
        (decimal (IsRun-prefix (λ b. is_digit_in b 10) bs some) refl))

based_is : (base letter : ℕ) (rest : List ℕ) → IsBase base letter → IsRead (48 ∷ letter ∷ rest) (based_at base rest)
unfolding based_at
based_is base letter rest is = ⊎_elim alone some (either (digits_len base rest == 0))
  where
    alone : (digits_len base rest == 0) ≡ true → IsRead (48 ∷ letter ∷ rest) (based_at base rest)
    alone t = rw t (zero_is (letter ∷ rest))

    some : (digits_len base rest == 0) ≡ false → IsRead (48 ∷ letter ∷ rest) (based_at base rest)
    some f =
        let none = eqb-false (digits_len base rest) 0 f in
        rw f (integer_is (48 ∷ letter ∷ rest) (48 ∷ letter ∷ digits_of base rest) (drop (digits_len base rest) rest) (number_of base (digits_of base rest)) (2 + digits_len base rest)
        (ap (λ (xs : List ℕ). 48 ∷ letter ∷ xs) (digits_split base rest)) (omega (arith, length-digits base rest))
        (based base letter (digits_of base rest) is (IsRun-prefix (λ b. is_digit_in b base) rest (omega arith)) refl refl))

-- a character after `0'`
code_is : (rest : List ℕ) (p : Piece) → piece_at 39 rest ≡ p → IsPiece 39 rest p → IsRead (48 ∷ 39 ∷ rest) (code_of p)
code_is rest (Character c n) e k = record {
  text = 48 ∷ 39 ∷ k.text;
  after = k.rest;
  whole = ap (λ (xs : List ℕ). 48 ∷ 39 ∷ xs) k.whole;
  count = omega (arith, k.count);
  of_form = (c, refl, code k.text k.spells refl);
}
code_is rest Dropped e k =
    inl (escape_after_zero (10 ∷ k.0) (ap (λ (xs : List ℕ). 48 ∷ 39 ∷ xs) k.1) (spells_none 39 (92 ∷ 10 ∷ k.0) Dropped (inl refl) (ap (piece_at 39) (sym k.1) ∙ e) (λ c n h. cc)) refl)
code_is rest Closing e k = zero_is (39 ∷ rest)
code_is rest (Fault Unclosed) e k = zero_is (39 ∷ rest)
code_is rest (Fault BadByte) e k = inl (byte_after_zero rest refl (bad_byte 39 rest (inl refl) e) refl)
code_is rest (Fault BadEscape) e k =
    inl (escape_after_zero k.0 (ap (λ (xs : List ℕ). 48 ∷ 39 ∷ xs) k.1) (spells_none 39 (92 ∷ k.0) (Fault BadEscape) (inl refl) (ap (piece_at 39) (sym k.1) ∙ e) (λ c n h. cc)) refl)
code_is rest (Fault Float) e k = absurd k
code_is rest (Fault WideNumber) e k = absurd k

-- `0` and one more byte
zero_and : (b c : ℕ) (bs : List ℕ) → ((b == 48) && begins_with c bs) ≡ true → (rest : List ℕ) × (b ∷ bs ≡ 48 ∷ c ∷ rest)
zero_and b c bs h =
    let parts = and_true (b == 48) (begins_with c bs) h in
    let next = begins_is c bs parts.1 in
    (next.0, ap (λ x. x ∷ bs) (eqb-true b 48 parts.0) ∙ ap (λ (xs : List ℕ). 48 ∷ xs) next.1)

digit_some : (b : ℕ) (bs : List ℕ) → is_digit b ≡ true → 0 < digits_len 10 (b ∷ bs)
digit_some b bs h = let d : is_digit_in b 10 ≡ true = decimal_digit b ∙ h in rw d (omega arith)

integer_at_is : (b : ℕ) (bs : List ℕ) → is_digit b ≡ true → IsRead (b ∷ bs) (integer_at (b ∷ bs))
unfolding integer_at
integer_at_is b bs digit =
    ⊎_elim by_x (λ x. ⊎_elim (by_o x) (λ o. ⊎_elim (by_b x o) (λ y. ⊎_elim (by_quote x o y) (other x o y) (either ((b == 48) && begins_with 39 bs))) (either ((b == 48) && begins_with 98 bs))) (either ((b == 48) && begins_with 111 bs)))
    (either ((b == 48) && begins_with 120 bs))
  where
    by_x : ((b == 48) && begins_with 120 bs) ≡ true → IsRead (b ∷ bs) (integer_at (b ∷ bs))
    by_x x =
        let is = zero_and b 120 bs x in
        let P : List ℕ → Type 0 = λ xs. IsRead xs (based_at 16 (drop 1 (drop 1 xs))) in
        rw x (subst P (sym is.1) (based_is 16 120 is.0 hexadecimal_base))

    by_o : ((b == 48) && begins_with 120 bs) ≡ false → ((b == 48) && begins_with 111 bs) ≡ true → IsRead (b ∷ bs) (integer_at (b ∷ bs))
    by_o x o =
        let is = zero_and b 111 bs o in
        let P : List ℕ → Type 0 = λ xs. IsRead xs (based_at 8 (drop 1 (drop 1 xs))) in
        rw (x, o) (subst P (sym is.1) (based_is 8 111 is.0 octal_base))

    by_b : ((b == 48) && begins_with 120 bs) ≡ false → ((b == 48) && begins_with 111 bs) ≡ false → ((b == 48) && begins_with 98 bs) ≡ true → IsRead (b ∷ bs) (integer_at (b ∷ bs))
    by_b x o y =
        let is = zero_and b 98 bs y in
        let P : List ℕ → Type 0 = λ xs. IsRead xs (based_at 2 (drop 1 (drop 1 xs))) in
        rw (x, o, y) (subst P (sym is.1) (based_is 2 98 is.0 binary_base))

    by_quote : ((b == 48) && begins_with 120 bs) ≡ false → ((b == 48) && begins_with 111 bs) ≡ false → ((b == 48) && begins_with 98 bs) ≡ false → ((b == 48) && begins_with 39 bs) ≡ true → IsRead (b ∷ bs) (integer_at (b ∷ bs))
    by_quote x o y q =
        let is = zero_and b 39 bs q in
        let P : List ℕ → Type 0 = λ xs. IsRead xs (code_of (piece_at 39 (drop 1 (drop 1 xs)))) in
        rw (x, o, y, q) (subst P (sym is.1) (code_is is.0 (piece_at 39 is.0) refl (piece_is 39 is.0 (lit< tt))))

    other : ((b == 48) && begins_with 120 bs) ≡ false → ((b == 48) && begins_with 111 bs) ≡ false → ((b == 48) && begins_with 98 bs) ≡ false → ((b == 48) && begins_with 39 bs) ≡ false → IsRead (b ∷ bs) (integer_at (b ∷ bs))
    other x o y q = rw (x, o, y, q) (decimal_is (b ∷ bs) (digit_some b bs digit))

-- an item with a fault
item_fault_is : (quote at : ℕ) (bs characters body after : List ℕ) (kind : LexKind) → IsQuote quote → IsBody quote characters body → bs ≡ body ++ after
    → piece_at quote after ≡ Fault kind → IsPiece quote after (Fault kind) → at ≡ length body → IsFault (quote ∷ bs) (item_fault kind at)
item_fault_is quote at bs characters body after BadByte q is whole piece p count =
    byte_in_item quote body after (record { is_quote = q; characters = characters; is_body = is; whole = ap (λ (xs : List ℕ). quote ∷ xs) whole }) (bad_byte quote after q piece)
    (ap (λ n. fault_at BadByte (1 + n)) count)
item_fault_is quote at bs characters body after Unclosed q is whole piece p count =
    open_item quote body after (record { is_quote = q; characters = characters; is_body = is; whole = ap (λ (xs : List ℕ). quote ∷ xs) whole }) p refl
item_fault_is quote at bs characters body after BadEscape q is whole piece p count =
    escape_in_item quote body p.0 (record { is_quote = q; characters = characters; is_body = is; whole = ap (λ (xs : List ℕ). quote ∷ xs) (whole ∙ ap (λ (xs : List ℕ). body ++ xs) p.1) })
    (spells_none quote (92 ∷ p.0) (Fault BadEscape) q (ap (piece_at quote) (sym p.1) ∙ piece) (λ c n h. cc)) p.2 refl
item_fault_is quote at bs characters body after Float q is whole piece p count = absurd p
item_fault_is quote at bs characters body after WideNumber q is whole piece p count = absurd p

-- an item of a kind
item_read : (quote : ℕ) (of : TokenKind) (bs : List ℕ) → IsQuote quote → ((text after : List ℕ) → IsItem quote text after → IsOfForm of text after)
    → (r : Result ℕ LexFault) → IsItemLen quote bs r → IsRead (quote ∷ bs) (item_of of r)
item_read quote of bs q form (Ok n) h = record {
  text = quote ∷ (h.body ++ quote ∷ []);
  after = h.rest;
  whole = ap (λ (xs : List ℕ). quote ∷ xs) (h.whole ∙ sym (append_assoc h.body (quote ∷ []) h.rest));
  count = omega (arith, h.count, length-append h.body (quote ∷ []));
  of_form = form _ _ (record { characters = h.characters; body = h.body; is_body = h.is_body; whole = refl; apart = h.apart });
}
item_read quote of bs q form (Err fault) h =
    inl (item_fault_is quote fault.at bs h.characters h.body h.after fault.kind q h.is_body h.whole h.piece (subst (IsPiece quote h.after) h.piece (piece_is quote h.after (quote_small quote q))) h.count)

-- a byte, and then a run
run_whole : (b : ℕ) (p : ℕ → Bool) (bs : List ℕ) → b ∷ bs ≡ (b ∷ take (prefix_len p bs) bs) ++ drop (prefix_len p bs) bs
run_whole b p bs = ap (λ (xs : List ℕ). b ∷ xs) (sym (take-append-drop (prefix_len p bs) bs))

run_count : (b : ℕ) (p : ℕ → Bool) (bs : List ℕ) → length (b ∷ take (prefix_len p bs) bs) ≡ 1 + prefix_len p bs
run_count b p bs = omega (arith, length-take-le (prefix_len p bs) bs (prefix_len-le-length p bs))

begins_graphic_is : (bs : List ℕ) → begins is_graphic bs ≡ false → begins_graphic bs ≡ false
begins_graphic_is [] h = refl
begins_graphic_is (b ∷ bs) h = h

begins_with_take : (c n : ℕ) (bs : List ℕ) → begins_with c bs ≡ false → begins_with c (take n bs) ≡ false
begins_with_take c zero bs h = refl
begins_with_take c (suc n) [] h = refl
begins_with_take c (suc n) (b ∷ bs) h = h

-- by a test
if_read : (bytes : List ℕ) (t : Bool) (yes' no' : Answer) → (t ≡ true → IsRead bytes yes') → (t ≡ false → IsRead bytes no') → IsRead bytes (if t then yes' else no')
if_read bytes true yes' no' y n = y refl
if_read bytes false yes' no' y n = n refl

-- a byte alone
one_read : (b d : ℕ) (bs : List ℕ) (of : TokenKind) → IsOfForm of (d ∷ []) bs → (b == d) ≡ true → IsToken (b ∷ bs) (of, 1)
one_read b d bs of form t = record { text = d ∷ []; after = bs; whole = ap (λ x. x ∷ bs) (eqb-true b d t); count = refl; of_form = form }

solo_read : (b : ℕ) (bs : List ℕ) → ((b == 33) || (b == 59)) ≡ true → IsToken (b ∷ bs) (kind.Name, 1)
solo_read b bs t = ⊎_elim cut (λ f. semicolon (rw f at t)) (either (b == 33))
  where
    cut : (b == 33) ≡ true → IsToken (b ∷ bs) (kind.Name, 1)
    cut e = one_read b 33 bs kind.Name (inr (inr (inl refl))) e

    semicolon : (b == 59) ≡ true → IsToken (b ∷ bs) (kind.Name, 1)
    semicolon e = one_read b 59 bs kind.Name (inr (inr (inr refl))) e

-- a mark
mark_is : (b : ℕ) (bs : List ℕ) → (b == 39) ≡ false → (b == 34) ≡ false → IsRead (b ∷ bs) (mark_at b)
unfolding mark_at
mark_is b bs single double =
    if_read _ (b == 40) _ _ (one_read b 40 bs kind.Paren refl)
    (λ _. if_read _ (b == 41) _ _ (one_read b 41 bs kind.ParenEnd refl)
    (λ _. if_read _ (b == 91) _ _ (one_read b 91 bs kind.List refl)
    (λ _. if_read _ (b == 93) _ _ (one_read b 93 bs kind.ListEnd refl)
    (λ _. if_read _ (b == 123) _ _ (one_read b 123 bs kind.Curly refl)
    (λ _. if_read _ (b == 125) _ _ (one_read b 125 bs kind.CurlyEnd refl)
    (λ _. if_read _ (b == 44) _ _ (one_read b 44 bs kind.Comma refl)
    (λ _. if_read _ (b == 124) _ _ (one_read b 124 bs kind.Bar refl)
    (λ _. if_read _ ((b == 33) || (b == 59)) _ _ (solo_read b bs)
    (λ _. inr (record { is = refl; single = single; double = double }))))))))))

module _ (b : ℕ) (bs : List ℕ) (apart : begins_comment (b ∷ bs) ≡ false) where
  graphic_read : ((b == 46) && ends_clause bs) ≡ false → is_graphic b ≡ true → IsToken (b ∷ bs) (kind.Name, 1 + prefix_len is_graphic bs)
  graphic_read no_end graphic = record {
    text = b ∷ take (prefix_len is_graphic bs) bs;
    after = drop (prefix_len is_graphic bs) bs;
    whole = run_whole b is_graphic bs;
    count = run_count b is_graphic bs;
    of_form = inr (inl (record {
      run = (graphic, Each-prefix is_graphic bs);
      ended = begins_graphic_is _ (begins-prefix is_graphic bs);
      no_comment = ⊎_elim (λ t. no_star t) (λ f. rw f refl) (either (b == 47));
      no_end = λ alone ends. absurd (end alone ends);
    }));
  }
    where
      no_star : (b == 47) ≡ true → ((b == 47) && begins_with 42 (take (prefix_len is_graphic bs) bs)) ≡ false
      no_star t = let h = rw t at apart in rw t (begins_with_take 42 (prefix_len is_graphic bs) bs h)

      end : b ∷ take (prefix_len is_graphic bs) bs ≡ 46 ∷ [] → ends_clause (drop (prefix_len is_graphic bs) bs) ≡ true → ⊥
      end alone ends =
          let none : take (prefix_len is_graphic bs) bs ≡ [] = cc in
          let same : drop (prefix_len is_graphic bs) bs ≡ bs = ap (λ (xs : List ℕ). xs ++ drop (prefix_len is_graphic bs) bs) (sym none) ∙ take-append-drop (prefix_len is_graphic bs) bs in
          let first : b ≡ 46 = cc in
          let both = sym no_end ∙ ap (λ x. (x == 46) && ends_clause bs) first ∙ ap ends_clause (sym same) ∙ ends in
          cc

  pub token_is : IsRead (b ∷ bs) (token_at (b ∷ bs))
  token_is =
      if_read _ (is_small b) _ _ name
      (λ _. if_read _ (is_capital b || (b == 95)) _ _ variable
      (λ _. if_read _ (is_digit b) _ _ (integer_at_is b bs)
      (λ _. if_read _ (b == 39) _ _ single
      (λ s. if_read _ (b == 34) _ _ double
      (λ d. if_read _ ((b == 46) && ends_clause bs) _ _ end
      (λ e. if_read _ (is_graphic b) _ _ (graphic_read e) (λ _. mark_is b bs s d)))))))
    where
      name : is_small b ≡ true → IsToken (b ∷ bs) (kind.Name, 1 + prefix_len is_word bs)
      name t = record { text = b ∷ take (prefix_len is_word bs) bs; after = drop (prefix_len is_word bs) bs; whole = run_whole b is_word bs; count = run_count b is_word bs; of_form = inl (t, Each-prefix is_word bs) }

      variable : (is_capital b || (b == 95)) ≡ true → IsToken (b ∷ bs) (kind.Var, 1 + prefix_len is_word bs)
      variable t = record { text = b ∷ take (prefix_len is_word bs) bs; after = drop (prefix_len is_word bs) bs; whole = run_whole b is_word bs; count = run_count b is_word bs; of_form = (t, Each-prefix is_word bs) }

      single : (b == 39) ≡ true → IsRead (b ∷ bs) (item_of kind.Quoted (item_len 39 0 bs))
      single t = rw (eqb-true b 39 t) (item_read 39 kind.Quoted bs (inl refl) (λ text after h. h) (item_len 39 0 bs) (item_is 39 bs (inl refl)))

      double : (b == 34) ≡ true → IsRead (b ∷ bs) (item_of kind.Text (item_len 34 0 bs))
      double t = rw (eqb-true b 34 t) (item_read 34 kind.Text bs (inr refl) (λ text after h. h) (item_len 34 0 bs) (item_is 34 bs (inr refl)))

      end : ((b == 46) && ends_clause bs) ≡ true → IsToken (b ∷ bs) (kind.End, 1)
      end t = let parts = and_true (b == 46) (ends_clause bs) t in one_read b 46 bs kind.End (refl, parts.1) parts.0
