-- A token stays what it is where a text goes on otherwise after it, with a parenthesis, a bracket or a space.
use Rattle.std.proofs.Common.{◌≡◌, ℕ, ◌+◌, ◌<◌, ◌≤◌, ◌^◌, ◌==◌, ◌&&◌, nat_lt, Bool, true, false, List, [], ◌∷◌, ◌++◌, length, take, drop, pos, Ok, Err, ◌⊎◌, inl, inr, ⊎_elim, refl, sym, ◌∙◌, ap, subst, append_assoc, length-append, arith, if◌then◌else◌}
use Rattle.std.specs.Char.{digit_value, is_digit as is_digit_in}
use Rattle.std.specs.List.{prefix_len}
use Rattle.std.proofs.lemmas.Bool.{eqb-true, ne_eqb, ltb-false, lt-ltb, ltb-true}
use Rattle.std.proofs.lemmas.List.{take_at, drop_at}
use Rattle.prolog_tokens.specs.Bytes.{is_word, is_graphic, begins_with, begins_comment, ends_clause}
use Rattle.prolog_tokens.specs.Places.{fault_at}
use Rattle.prolog_tokens.specs.Numbers.{digits_len, number_of}
use Rattle.prolog_tokens.specs.Pieces.{piece_at}
use Rattle.prolog_tokens.specs.Items.{item_len}
use Rattle.prolog_tokens.specs.Tokens.{Answer, zero_alone, is_fraction, decimal_at, based_at, code_of, integer_at, item_of, mark_at, token_at}
use Rattle.prolog_tokens.specs.Forms.{Each, IsBase, hexadecimal_base, octal_base, binary_base, SpellsInteger, decimal, based, code, IsOfForm, IsGraphicName, begins_graphic, IsItem, IsQuote, wide}
use Rattle.prolog_tokens.specs.declared.piece.Piece.{Piece}
use Rattle.prolog_tokens.specs.declared.piece.Piece.TheVariants.{Character, Dropped, Closing, Fault}
use Rattle.prolog_tokens.specs.declared.token.TokenKind.{TokenKind}
use Rattle.prolog_tokens.specs.declared.token.TokenKind.TheVariants as kind
use Rattle.prolog_tokens.specs.declared.fault.LexKind.TheVariants.{BadByte, Unclosed, BadEscape, Float, WideNumber}
use Rattle.prolog_tokens.proofs.CharacterLemmas.{either}
use Rattle.prolog_tokens.proofs.NumberLemmas.{decimal_digit}
use Rattle.prolog_tokens.proofs.RunLemmas.{begins, prefix_len-Each, Each-run, length-run}
use Rattle.prolog_tokens.proofs.ClassLemmas.{variable_not_small, graphic_not_small, graphic_not_variable, graphic_not_digit, graphic_not_quote, graphic_not_double, graphic_ends_none}
use Rattle.prolog_tokens.proofs.PieceLemmas.{IsPiece, piece_is}
use Rattle.prolog_tokens.proofs.SpelledLemmas.{quote_small, spelled_piece, closing_piece, line_end_piece}
use Rattle.prolog_tokens.proofs.BodyLemmas.{item_closed}
use Rattle.prolog_tokens.proofs.FitLemmas.{and_false, integer_at_digits, token_at_digit, integer_at_based, integer_at_code, token_at_single, token_at_double}
use Rattle.prolog_tokens.proofs.LongestLemmas.{fault_is_found}

-- a byte that separates what stands after a name, or after another token
pub data Separates : Bool → ℕ → Type 0 where
  opens : Separates true 40
  lists : Separates true 91
  spaces : Separates false 32

abbrev pub name_kind : TokenKind → Bool
name_kind kind.Name = true
name_kind kind.Quoted = true
name_kind _ = false

length_of : Answer → ℕ
length_of (Ok t) = t.1
length_of (Err fault) = 0

ok_length : (k k' : TokenKind) (n n' : ℕ) → ◌≡◌ {A = Answer} (Ok (k, n)) (Ok (k', n')) → n ≡ n'
unfolding length_of
ok_length k k' n n' h = ap length_of h

-- answers by a test of the number, and one before it
abbrev narrow_answer : Bool → ℕ → ℕ → Answer
narrow_answer t number len = if t then Ok (kind.Int (pos number), len) else Err (fault_at WideNumber 0)

abbrev decimal_answer : Bool → Bool → ℕ → ℕ → Answer
decimal_answer t f number len = if t && f then Err (fault_at Float 0) else narrow_answer t number len

abbrev based_answer : Bool → Bool → ℕ → ℕ → Answer
based_answer none t number len = if none then zero_alone else narrow_answer t number (2 + len)

-- ---- runs

run_ended : (p : ℕ → Bool) (xs ys : List ℕ) → Each p xs → prefix_len p (xs ++ ys) ≡ length xs → begins p ys ≡ false
run_ended p [] [] h e = refl
run_ended p [] (y ∷ ys) h e = ⊎_elim (λ t. let f = rw t at e in absurd (omega (arith, f))) (λ f. f) (either (p y))
run_ended p (x ∷ xs) ys h e = let f = rw h.0 at e in run_ended p xs ys h.1 (omega (arith, f))

begins_cut : (p : ℕ → Bool) (w x more : List ℕ) (s : ℕ) → p s ≡ false → begins p (w ++ x) ≡ false → begins p (w ++ s ∷ more) ≡ false
begins_cut p [] x more s h e = h
begins_cut p (c ∷ w) x more s h e = e

not_word : (b : Bool) (s : ℕ) → Separates b s → is_word s ≡ false
not_word b s opens = refl
not_word b s lists = refl
not_word b s spaces = refl

not_graphic : (b : Bool) (s : ℕ) → Separates b s → is_graphic s ≡ false
unfolding is_graphic
not_graphic b s opens = refl
not_graphic b s lists = refl
not_graphic b s spaces = refl

not_digit : (b : Bool) (s : ℕ) → Separates b s → is_digit_in s 10 ≡ false
not_digit b s opens = refl
not_digit b s lists = refl
not_digit b s spaces = refl

not_digit_of : (b : Bool) (s base letter : ℕ) → Separates b s → IsBase base letter → is_digit_in s base ≡ false
not_digit_of b s base letter opens hexadecimal_base = refl
not_digit_of b s base letter opens octal_base = refl
not_digit_of b s base letter opens binary_base = refl
not_digit_of b s base letter lists hexadecimal_base = refl
not_digit_of b s base letter lists octal_base = refl
not_digit_of b s base letter lists binary_base = refl
not_digit_of b s base letter spaces hexadecimal_base = refl
not_digit_of b s base letter spaces octal_base = refl
not_digit_of b s base letter spaces binary_base = refl

not_single : (b : Bool) (s : ℕ) → Separates b s → (s == 39) ≡ false
not_single b s opens = refl
not_single b s lists = refl
not_single b s spaces = refl

not_double : (b : Bool) (s : ℕ) → Separates b s → (s == 34) ≡ false
not_double b s opens = refl
not_double b s lists = refl
not_double b s spaces = refl

ends_none : (s : ℕ) (more : List ℕ) → Separates true s → ends_clause (s ∷ more) ≡ false
ends_none s more opens = refl
ends_none s more lists = refl

ends_some : (s : ℕ) (more : List ℕ) → Separates false s → ends_clause (s ∷ more) ≡ true
ends_some s more spaces = refl

-- where no letter of a base and no quote stands after a 0, and after another digit, the digits decide
zero_decimal : (c : ℕ) (r : List ℕ) → (c == 120) ≡ false → (c == 111) ≡ false → (c == 98) ≡ false → (c == 39) ≡ false → integer_at (48 ∷ c ∷ r) ≡ decimal_at (48 ∷ c ∷ r)
unfolding integer_at
zero_decimal c r h o i q = rw (h, o, i, q) refl

other_decimal : (d : ℕ) (r : List ℕ) → (d == 48) ≡ false → integer_at (d ∷ r) ≡ decimal_at (d ∷ r)
unfolding integer_at
other_decimal d r f = rw f refl

zero_before : (b : Bool) (s : ℕ) (more : List ℕ) → Separates b s → integer_at (48 ∷ s ∷ more) ≡ zero_alone
unfolding integer_at decimal_at
zero_before b s more opens = refl
zero_before b s more lists = refl
zero_before b s more spaces = refl

module _ (b : Bool) (s : ℕ) (sep : Separates b s) (more : List ℕ) where
  quote_cut : (q : ℕ) (w x : List ℕ) → IsQuote q → begins_with q (w ++ x) ≡ false → begins_with q (w ++ s ∷ more) ≡ false
  quote_cut q [] x (inl e) h = rw e (not_single b s sep)
  quote_cut q [] x (inr e) h = rw e (not_double b s sep)
  quote_cut q (c ∷ w) x e h = h

  -- ---- words, graphic names and items

  word_cut : (k : TokenKind) (c : ℕ) (bs w x : List ℕ) → Each is_word bs → 1 + prefix_len is_word (bs ++ (w ++ x)) ≡ length (c ∷ bs) → ◌≡◌ {A = Answer} (Ok (k, 1 + prefix_len is_word (bs ++ (w ++ s ∷ more)))) (Ok (k, length (c ∷ bs)))
  word_cut k c bs w x each e =
      let ended = run_ended is_word bs (w ++ x) each (omega (arith, e)) in
      let len = prefix_len-Each is_word bs (w ++ s ∷ more) each (begins_cut is_word w x more s (not_word b s sep) ended) in
      ap (λ n. Ok (k, n)) (omega (arith, len))

  graphic_ended : (w x : List ℕ) → begins_graphic (w ++ x) ≡ false → begins is_graphic (w ++ s ∷ more) ≡ false
  graphic_ended [] x h = not_graphic b s sep
  graphic_ended (c ∷ w) x h = h

  no_end_cut : (w x : List ℕ) → (w ≡ [] → b ≡ true) → (ends_clause (w ++ x) ≡ true → ⊥) → ends_clause (w ++ s ∷ more) ≡ false
  no_end_cut [] x name h = let P : Bool → Type 0 = λ n. Separates n s in ends_none s more (subst P (name refl) sep)
  no_end_cut (c ∷ w) x name h = ⊎_elim (λ t. absurd (h t)) (λ f. f) (either (ends_clause (c ∷ w ++ x)))

  graphic_cut : (text w x : List ℕ) → (w ≡ [] → b ≡ true) → IsGraphicName text (w ++ x) → token_at (text ++ (w ++ s ∷ more)) ≡ Ok (kind.Name, length text)
  graphic_cut [] w x name h = absurd h.run
  graphic_cut (c ∷ bs) w x name h =
      let g = h.run.0 in
      let v = graphic_not_variable c g in
      let len = prefix_len-Each is_graphic bs (w ++ s ∷ more) h.run.1 (graphic_ended w x h.ended) in
      rw (graphic_not_small c g) (rw v (rw (graphic_not_digit c g, graphic_not_quote c g, graphic_not_double c g) (rw (no_end bs refl) (rw g (ap (λ n. Ok (kind.Name, n)) (omega (arith, len)))))))
    where
      no_end : (xs : List ℕ) → bs ≡ xs → ((c == 46) && ends_clause (bs ++ (w ++ s ∷ more))) ≡ false
      no_end [] e =
          ⊎_elim (λ t. rw e (rw (no_end_cut w x name (λ u. h.no_end (ap (λ (xs : List ℕ). c ∷ xs) e ∙ ap (λ y. y ∷ []) (eqb-true c 46 t)) u)) (and_false (c == 46)))) (λ t. rw t refl) (either (c == 46))
      no_end (y ∷ ys) e = rw e (rw (graphic_ends_none y (first y ys e)) (and_false (c == 46)))
        where
          first : (y : ℕ) (ys : List ℕ) → bs ≡ y ∷ ys → is_graphic y ≡ true
          first y ys e = let P : List ℕ → Type 0 = λ zs. Each is_graphic zs in (subst P e h.run.1).0

  item_cut : (quote : ℕ) (of : TokenKind) (text w x : List ℕ) → IsQuote quote → IsItem quote text (w ++ x) → ((bs : List ℕ) → token_at (quote ∷ bs) ≡ item_of of (item_len quote 0 bs)) → token_at (text ++ (w ++ s ∷ more)) ≡ Ok (of, length text)
  item_cut quote of text w x q item is =
      let after = w ++ s ∷ more in
      rw item.whole (rw (is ((item.body ++ quote ∷ []) ++ after)) (rw (append_assoc item.body (quote ∷ []) after) (rw (item_closed quote after q item.is_body (quote_cut quote w x q item.apart))
      (ap (λ n. Ok (of, n)) (omega (arith, length-append item.body (quote ∷ [])))))))

  -- ---- integers

  fraction_cut : (w x : List ℕ) → is_fraction (w ++ x) ≡ false → is_fraction (w ++ s ∷ more) ≡ false
  fraction_cut [] x h = not_dot b s sep
    where
      not_dot : (b : Bool) (s : ℕ) → Separates b s → is_fraction (s ∷ more) ≡ false
      not_dot b s opens = refl
      not_dot b s lists = refl
      not_dot b s spaces = refl
  fraction_cut (c ∷ []) x h = let none = prefix_len-Each (λ y. is_digit_in y 10) [] (s ∷ more) tt (not_digit b s sep) in rw none (and_false (c == 46))
  fraction_cut (c ∷ d ∷ w) x h = ⊎_elim some none (either (is_digit_in d 10))
    where
      some : is_digit_in d 10 ≡ true → is_fraction (c ∷ d ∷ (w ++ s ∷ more)) ≡ false
      some t =
          let f = rw t at h in
          let n = 1 + prefix_len (λ y. is_digit_in y 10) (w ++ x) in
          let m = 1 + prefix_len (λ y. is_digit_in y 10) (w ++ s ∷ more) in
          let P : Bool → Type 0 = λ u. ((c == 46) && u) ≡ false in
          rw t (subst P (lt-ltb 0 n (omega arith) ∙ sym (lt-ltb 0 m (omega arith))) f)

      none : is_digit_in d 10 ≡ false → is_fraction (c ∷ d ∷ (w ++ s ∷ more)) ≡ false
      none f = rw f (and_false (c == 46))

  -- what digits say
  decimal_says : (k : TokenKind) (n : ℕ) (bs : List ℕ) → decimal_at bs ≡ Ok (k, n) → (digits_len 10 bs ≡ n) × (is_fraction (drop n bs) ≡ false)
  unfolding decimal_at
  decimal_says k n bs e = by_test (nat_lt (number_of 10 (take (digits_len 10 bs) bs)) (2 ^ 127)) (is_fraction (drop (digits_len 10 bs) bs)) refl e
    where
      by_test : (t f : Bool) → is_fraction (drop (digits_len 10 bs) bs) ≡ f
          → decimal_answer t f (number_of 10 (take (digits_len 10 bs) bs)) (digits_len 10 bs) ≡ Ok (k, n)
          → (digits_len 10 bs ≡ n) × (is_fraction (drop n bs) ≡ false)
      by_test true true i e = cc
      by_test true false i e = let len = ok_length _ _ _ _ e in (len, ap (λ m. is_fraction (drop m bs)) (sym len) ∙ i)
      by_test false f i e = cc

  decimal_is : (text after : List ℕ) → Each (λ y. is_digit_in y 10) text → begins (λ y. is_digit_in y 10) after ≡ false → is_fraction after ≡ false → number_of 10 text < 2 ^ 127
      → decimal_at (text ++ after) ≡ Ok (kind.Int (pos (number_of 10 text)), length text)
  unfolding decimal_at
  decimal_is text after each ended whole narrow =
      let len : digits_len 10 (text ++ after) ≡ length text = prefix_len-Each (λ y. is_digit_in y 10) text after each ended in
      rw len (rw (take_at text after (length text) refl, drop_at text after (length text) refl) (rw (lt-ltb (number_of 10 text) (2 ^ 127) narrow) (rw whole refl)))

  decimal_cut : (k : TokenKind) (text w x : List ℕ) → Each (λ y. is_digit_in y 10) text → number_of 10 text < 2 ^ 127 → decimal_at (text ++ (w ++ x)) ≡ Ok (k, length text)
      → decimal_at (text ++ (w ++ s ∷ more)) ≡ Ok (kind.Int (pos (number_of 10 text)), length text)
  decimal_cut k text w x each narrow e =
      let says = decimal_says k (length text) (text ++ (w ++ x)) e in
      let ended = run_ended (λ y. is_digit_in y 10) text (w ++ x) each says.0 in
      let whole = ap is_fraction (sym (drop_at text (w ++ x) (length text) refl)) ∙ says.1 in
      decimal_is text (w ++ s ∷ more) each (begins_cut (λ y. is_digit_in y 10) w x more s (not_digit b s sep) ended) (fraction_cut w x whole) narrow

  based_says : (k : TokenKind) (base n : ℕ) (bs : List ℕ) → based_at base bs ≡ Ok (k, n) → ((digits_len base bs ≡ 0) × (n ≡ 1)) ⊎ (n ≡ 2 + digits_len base bs)
  unfolding based_at
  based_says k base n bs e = by_test (digits_len base bs == 0) (nat_lt (number_of base (take (digits_len base bs) bs)) (2 ^ 127)) refl e
    where
      by_test : (t f : Bool) → (digits_len base bs == 0) ≡ t
          → based_answer t f (number_of base (take (digits_len base bs) bs)) (digits_len base bs) ≡ Ok (k, n)
          → ((digits_len base bs ≡ 0) × (n ≡ 1)) ⊎ (n ≡ 2 + digits_len base bs)
      by_test true f i e = inl (eqb-true _ 0 i, sym (ok_length _ _ _ _ e))
      by_test false true i e = inr (sym (ok_length _ _ _ _ e))
      by_test false false i e = cc

  based_zero : (base : ℕ) (bs : List ℕ) → digits_len base bs ≡ 0 → based_at base bs ≡ zero_alone
  unfolding based_at
  based_zero base bs h = rw h refl

  based_is : (base : ℕ) (digits after : List ℕ) → Each (λ y. is_digit_in y base) digits → 0 < length digits → begins (λ y. is_digit_in y base) after ≡ false → number_of base digits < 2 ^ 127
      → based_at base (digits ++ after) ≡ Ok (kind.Int (pos (number_of base digits)), 2 + length digits)
  unfolding based_at
  based_is base digits after each some ended narrow =
      let len : digits_len base (digits ++ after) ≡ length digits = prefix_len-Each (λ y. is_digit_in y base) digits after each ended in
      rw len (rw (ne_eqb (length digits) 0 (λ e. omega (arith, e, some))) (rw (take_at digits after (length digits) refl) (rw (lt-ltb (number_of base digits) (2 ^ 127) narrow) refl)))

  -- a 0 and the letter of a base, without a digit after it
  letter_cut : (k : TokenKind) (base letter : ℕ) (w x : List ℕ) → IsBase base letter → integer_at (48 ∷ letter ∷ (w ++ x)) ≡ Ok (k, 1) → integer_at (48 ∷ letter ∷ (w ++ s ∷ more)) ≡ zero_alone
  letter_cut k base letter w x is e =
      integer_at_based base letter (w ++ s ∷ more) is
      ∙ based_zero base (w ++ s ∷ more) (⊎_elim (λ z. none z.0) (λ long. absurd (omega (arith, long))) (based_says k base 1 (w ++ x) (sym (integer_at_based base letter (w ++ x) is) ∙ e)))
    where
      none : digits_len base (w ++ x) ≡ 0 → digits_len base (w ++ s ∷ more) ≡ 0
      none z =
          let ended = run_ended (λ y. is_digit_in y base) [] (w ++ x) tt z in
          prefix_len-Each (λ y. is_digit_in y base) [] (w ++ s ∷ more) tt (begins_cut (λ y. is_digit_in y base) w x more s (not_digit_of b s base letter sep is) ended)

  first_same : (c d : ℕ) (xs ys : List ℕ) → c ∷ xs ≡ d ∷ ys → c ≡ d
  first_same c d xs ys e = cc

  rest_same : (c d : ℕ) (xs ys : List ℕ) → c ∷ xs ≡ d ∷ ys → xs ≡ ys
  rest_same c d xs ys e = cc

  -- a 0 and a quote that begins no character
  quote_alone : (k : TokenKind) (w x : List ℕ) → 1 ≤ length w → (p : Piece) → piece_at 39 (w ++ x) ≡ p → IsPiece 39 (w ++ x) p → code_of p ≡ Ok (k, 1) → code_of (piece_at 39 (w ++ s ∷ more)) ≡ zero_alone
  quote_alone k [] x some p at is e = absurd (omega (arith, some))
  quote_alone k (c ∷ w) x some (Character d n) at is e = absurd (let len = ok_length _ _ _ _ e in omega (arith, len))
  quote_alone k (c ∷ w) x some Dropped at is e = cc
  quote_alone k (c ∷ w) x some Closing at is e =
      let head = first_same c 39 (w ++ x) is.0 is.1 in
      let apart = ap (begins_with 39) (rest_same c 39 (w ++ x) is.0 is.1) ∙ is.2 in
      ap (λ y. code_of (piece_at 39 (y ∷ (w ++ s ∷ more)))) head ∙ ap code_of (closing_piece 39 (w ++ s ∷ more) (quote_cut 39 w x (inl refl) apart))
  quote_alone k (c ∷ w) x some (Fault Unclosed) at is e = ap code_of (line_end_piece 39 (c ∷ (w ++ s ∷ more)) (inl refl) is)
  quote_alone k (c ∷ w) x some (Fault BadByte) at is e = cc
  quote_alone k (c ∷ w) x some (Fault BadEscape) at is e = cc
  quote_alone k (c ∷ w) x some (Fault Float) at is e = cc
  quote_alone k (c ∷ w) x some (Fault WideNumber) at is e = cc

  -- a 0 that is alone stays alone, and so does a digit
  abbrev StaysZero : TokenKind → List ℕ → List ℕ → ℕ → Type 0
  StaysZero k w x y = integer_at (48 ∷ y ∷ (w ++ x)) ≡ Ok (k, 1) → integer_at (48 ∷ y ∷ (w ++ s ∷ more)) ≡ zero_alone

  abbrev StaysDigit : TokenKind → List ℕ → List ℕ → ℕ → Type 0
  StaysDigit k w x y = integer_at (y ∷ (w ++ x)) ≡ Ok (k, 1) → integer_at (y ∷ (w ++ s ∷ more)) ≡ Ok (kind.Int (pos (number_of 10 (y ∷ []))), 1)

  zero_by : (c : ℕ) (w x : List ℕ) (k : TokenKind) → (c ≡ 39 → 1 ≤ length w) → integer_at (48 ∷ c ∷ (w ++ x)) ≡ Ok (k, 1) → integer_at (48 ∷ c ∷ (w ++ s ∷ more)) ≡ zero_alone
  zero_by c w x k long e = ⊎_elim (λ t. hexadecimal t) (λ h. ⊎_elim (λ t. octal t) (λ o. ⊎_elim (λ t. binary t) (λ i. ⊎_elim (λ t. quote t) (λ q. plain h o i q) (either (c == 39))) (either (c == 98))) (either (c == 111))) (either (c == 120))
    where
      hexadecimal : (c == 120) ≡ true → integer_at (48 ∷ c ∷ (w ++ s ∷ more)) ≡ zero_alone
      hexadecimal t = (subst (StaysZero k w x) (sym (eqb-true c 120 t)) (letter_cut k 16 120 w x hexadecimal_base)) e

      octal : (c == 111) ≡ true → integer_at (48 ∷ c ∷ (w ++ s ∷ more)) ≡ zero_alone
      octal t = (subst (StaysZero k w x) (sym (eqb-true c 111 t)) (letter_cut k 8 111 w x octal_base)) e

      binary : (c == 98) ≡ true → integer_at (48 ∷ c ∷ (w ++ s ∷ more)) ≡ zero_alone
      binary t = (subst (StaysZero k w x) (sym (eqb-true c 98 t)) (letter_cut k 2 98 w x binary_base)) e

      quote : (c == 39) ≡ true → integer_at (48 ∷ c ∷ (w ++ s ∷ more)) ≡ zero_alone
      quote t =
          let is = eqb-true c 39 t in
          let coded : StaysZero k w x 39 = λ e. integer_at_code (w ++ s ∷ more) ∙ quote_alone k w x (long is) (piece_at 39 (w ++ x)) refl (piece_is 39 (w ++ x) (quote_small 39 (inl refl))) (sym (integer_at_code (w ++ x)) ∙ e) in
          (subst (StaysZero k w x) (sym is) coded) e

      plain : (c == 120) ≡ false → (c == 111) ≡ false → (c == 98) ≡ false → (c == 39) ≡ false → integer_at (48 ∷ c ∷ (w ++ s ∷ more)) ≡ zero_alone
      plain h o i q =
          zero_decimal c (w ++ s ∷ more) h o i q ∙ decimal_cut k (48 ∷ []) (c ∷ w) x (refl, tt) (omega arith) (sym (zero_decimal c (w ++ x) h o i q) ∙ e)

  zero_cut : (w x : List ℕ) (k : TokenKind) → (begins_with 39 w ≡ true → 2 ≤ length w) → integer_at (48 ∷ (w ++ x)) ≡ Ok (k, 1) → integer_at (48 ∷ (w ++ s ∷ more)) ≡ zero_alone
  zero_cut [] x k long e = zero_before b s more sep
  zero_cut (c ∷ w) x k long e = zero_by c w x k (λ is. let l = long (ap (λ y. y == 39) is) in omega (arith, l)) e

  -- one digit
  digit_cut : (d : ℕ) (w x : List ℕ) (k : TokenKind) → is_digit_in d 10 ≡ true → (begins_with 39 w ≡ true → 2 ≤ length w) → integer_at (d ∷ (w ++ x)) ≡ Ok (k, 1)
      → integer_at (d ∷ (w ++ s ∷ more)) ≡ Ok (kind.Int (pos (number_of 10 (d ∷ []))), 1)
  digit_cut d w x k digit long e = ⊎_elim zero_digit other (either (d == 48))
    where
      zero_digit : (d == 48) ≡ true → integer_at (d ∷ (w ++ s ∷ more)) ≡ Ok (kind.Int (pos (number_of 10 (d ∷ []))), 1)
      zero_digit t = let cut : StaysDigit k w x 48 = zero_cut w x k long in (subst (StaysDigit k w x) (sym (eqb-true d 48 t)) cut) e

      small : number_of 10 (d ∷ []) < 2 ^ 127
      small = let l = ltb-true (digit_value d) 10 digit in omega (arith, l)

      other : (d == 48) ≡ false → integer_at (d ∷ (w ++ s ∷ more)) ≡ Ok (kind.Int (pos (number_of 10 (d ∷ []))), 1)
      other f = other_decimal d (w ++ s ∷ more) f ∙ decimal_cut k (d ∷ []) w x (digit, tt) small (sym (other_decimal d (w ++ x) f) ∙ e)

  -- the integer of a form
  integer_cut : (n : ℕ) (text w x : List ℕ) (k : TokenKind) → n < 2 ^ 127 → (begins_with 39 w ≡ true → 2 ≤ length w) → SpellsInteger n text → token_at (text ++ (w ++ x)) ≡ Ok (k, length text)
      → token_at (text ++ (w ++ s ∷ more)) ≡ Ok (kind.Int (pos n), length text)
  integer_cut n [] w x k narrow long (decimal are is) e = absurd are
  integer_cut n (d ∷ []) w x k narrow long (decimal are is) e =
      let digit = sym (decimal_digit d) ∙ are.0 in
      token_at_digit d (w ++ s ∷ more) digit ∙ digit_cut d w x k are.0 long (sym (token_at_digit d (w ++ x) digit) ∙ e) ∙ ap (λ m. Ok (kind.Int (pos m), 1)) (sym is)
  integer_cut n (d ∷ d' ∷ ds) w x k narrow long (decimal are is) e =
      let digit = sym (decimal_digit d) ∙ are.0 in
      let digit' = sym (decimal_digit d') ∙ are.1.0 in
      let at = λ (r : List ℕ). token_at_digit d (d' ∷ r) digit ∙ integer_at_digits d d' r digit' in
      at (ds ++ (w ++ s ∷ more)) ∙ decimal_cut k (d ∷ d' ∷ ds) w x are (omega (arith, is, narrow)) (sym (at (ds ++ (w ++ x))) ∙ e) ∙ ap (λ m. Ok (kind.Int (pos m), length (d ∷ d' ∷ ds))) (sym is)
  integer_cut n text w x k narrow long (based base letter digits base_is are is whole) e =
      let p : ℕ → Bool = λ y. is_digit_in y base in
      let each = Each-run p digits are in
      let some = length-run p p digits are in
      let at = λ (r : List ℕ). token_at_digit 48 (letter ∷ (digits ++ r)) refl ∙ integer_at_based base letter (digits ++ r) base_is in
      let old : based_at base (digits ++ (w ++ x)) ≡ Ok (k, 2 + length digits) = sym (at (w ++ x)) ∙ ap (λ (t : List ℕ). token_at (t ++ (w ++ x))) (sym whole) ∙ e ∙ ap (λ (t : List ℕ). Ok (k, length t)) whole ∙ ap (λ m. Ok (k, m)) (omega arith) in
      let len : digits_len base (digits ++ (w ++ x)) ≡ length digits = ⊎_elim (λ z. absurd (omega (arith, z.1, some))) (λ l. omega (arith, l)) (based_says k base (2 + length digits) (digits ++ (w ++ x)) old) in
      let ended = run_ended p digits (w ++ x) each len in
      let new = based_is base digits (w ++ s ∷ more) each some (begins_cut p w x more s (not_digit_of b s base letter sep base_is) ended) (omega (arith, is, narrow)) in
      ap (λ (t : List ℕ). token_at (t ++ (w ++ s ∷ more))) whole ∙ at (w ++ s ∷ more) ∙ new ∙ ap (λ m. Ok (kind.Int (pos m), 2 + length digits)) (sym is) ∙ ap (λ m. Ok (kind.Int (pos n), m)) (omega (arith, ap length whole))
  integer_cut n text w x k narrow long (code part spells whole) e =
      let at = token_at_digit 48 (39 ∷ (part ++ (w ++ s ∷ more))) refl ∙ integer_at_code (part ++ (w ++ s ∷ more)) ∙ ap code_of (spelled_piece 39 n part (w ++ s ∷ more) (inl refl) spells) in
      ap (λ (t : List ℕ). token_at (t ++ (w ++ s ∷ more))) whole ∙ at ∙ ap (λ m. Ok (kind.Int (pos n), m)) (omega (arith, ap length whole))

  -- ---- any token

  wide_not : (n : ℕ) (text after : List ℕ) (k : TokenKind) → begins_comment (text ++ after) ≡ false → SpellsInteger n text → token_at (text ++ after) ≡ Ok (k, length text) → n < 2 ^ 127
  wide_not n text after k apart spells e = ⊎_elim (λ t. ltb-true n (2 ^ 127) t) (λ f. absurd (large f)) (either (nat_lt n (2 ^ 127)))
    where
      large : nat_lt n (2 ^ 127) ≡ false → ⊥
      large f =
          let fault = fault_is_found (text ++ after) (fault_at WideNumber 0) apart (wide n text after spells (ltb-false n (2 ^ 127) f) refl refl) in
          let both = sym e ∙ fault in
          cc

  one_token : (k : TokenKind) (c : ℕ) (text after : List ℕ) → text ≡ c ∷ [] → token_at (c ∷ after) ≡ Ok (k, 1) → token_at (text ++ after) ≡ Ok (k, length text)
  one_token k c text after e t = ap (λ (xs : List ℕ). token_at (xs ++ after)) e ∙ t ∙ ap (λ (xs : List ℕ). Ok (k, length xs)) (sym e)

  ends_cut : (w x : List ℕ) → (w ≡ [] → b ≡ false) → ends_clause (w ++ x) ≡ true → ends_clause (w ++ s ∷ more) ≡ true
  ends_cut [] x other h = let P : Bool → Type 0 = λ n. Separates n s in ends_some s more (subst P (other refl) sep)
  ends_cut (c ∷ w) x other h = h

  pub token_cut : (k : TokenKind) (text w x : List ℕ) → (w ≡ [] → b ≡ name_kind k) → (begins_with 39 w ≡ true → 2 ≤ length w) → begins_comment (text ++ (w ++ x)) ≡ false
      → IsOfForm k text (w ++ x) → token_at (text ++ (w ++ x)) ≡ Ok (k, length text) → token_at (text ++ (w ++ s ∷ more)) ≡ Ok (k, length text)
  unfolding mark_at is_graphic
  token_cut kind.Name [] w x name long apart (inl h) e = absurd h
  token_cut kind.Name (c ∷ bs) w x name long apart (inl h) e = let len = ok_length _ _ _ _ (rw h.0 at e) in rw h.0 (word_cut kind.Name c bs w x h.1 len)
  token_cut kind.Name text w x name long apart (inr (inl h)) e = graphic_cut text w x name h
  token_cut kind.Name text w x name long apart (inr (inr (inl h))) e = one_token kind.Name 33 text (w ++ s ∷ more) h refl
  token_cut kind.Name text w x name long apart (inr (inr (inr h))) e = one_token kind.Name 59 text (w ++ s ∷ more) h refl
  token_cut kind.Quoted text w x name long apart h e = item_cut 39 kind.Quoted text w x (inl refl) h token_at_single
  token_cut kind.Text text w x name long apart h e = item_cut 34 kind.Text text w x (inr refl) h token_at_double
  token_cut kind.Var [] w x name long apart h e = absurd h
  token_cut kind.Var (c ∷ bs) w x name long apart h e =
      let v = variable_not_small c h.0 in
      let len = ok_length _ _ _ _ (rw h.0 at (rw v at e)) in
      rw v (rw h.0 (word_cut kind.Var c bs w x h.1 len))
  token_cut (kind.Int z) text w x name long apart h e =
      integer_cut h.0 text w x (kind.Int z) (wide_not h.0 text (w ++ x) (kind.Int z) apart h.2 e) long h.2 e ∙ ap (λ y. Ok (kind.Int y, length text)) (sym h.1)
  token_cut kind.Paren text w x name long apart h e = one_token kind.Paren 40 text (w ++ s ∷ more) h refl
  token_cut kind.ParenEnd text w x name long apart h e = one_token kind.ParenEnd 41 text (w ++ s ∷ more) h refl
  token_cut kind.List text w x name long apart h e = one_token kind.List 91 text (w ++ s ∷ more) h refl
  token_cut kind.ListEnd text w x name long apart h e = one_token kind.ListEnd 93 text (w ++ s ∷ more) h refl
  token_cut kind.Curly text w x name long apart h e = one_token kind.Curly 123 text (w ++ s ∷ more) h refl
  token_cut kind.CurlyEnd text w x name long apart h e = one_token kind.CurlyEnd 125 text (w ++ s ∷ more) h refl
  token_cut kind.Comma text w x name long apart h e = one_token kind.Comma 44 text (w ++ s ∷ more) h refl
  token_cut kind.Bar text w x name long apart h e = one_token kind.Bar 124 text (w ++ s ∷ more) h refl
  token_cut kind.End text w x name long apart h e = one_token kind.End 46 text (w ++ s ∷ more) h.0 (rw (ends_cut w x name h.1) refl)
