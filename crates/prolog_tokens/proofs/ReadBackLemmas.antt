-- A spelled name is read back.
use Rattle.std.proofs.Common.{◌≡◌, ℕ, ◌+◌, ◌-◌, ◌/◌, ◌%◌, ◌<◌, ◌≤◌, ◌||◌, ◌&&◌, ◌==◌, nat_lt, nat_le, Bool, true, false, List, [], ◌∷◌, ◌++◌, length, take, drop, Some, Ok, ◌⊎◌, inl, inr, ⊎_elim, refl, sym, ◌∙◌, ap, subst, append_assoc, append-nil, add-zero, length-append, length-drop, arith, if◌then◌else◌, ltb}
use Rattle.std.specs.List.{flat_map, prefix_len}
use Rattle.std.specs.Char.{IsScalar, encode_utf8, digit_char, digit_value, is_digit as is_digit_in}
use Rattle.std.specs.Str.{IsUtf8, encode_utf8_all, all_scalars}
use Rattle.std.proofs.Math.Utf8.{scalar, low_scalar}
use Rattle.std.proofs.lemmas.Bool.{eqb-true, eqb-false, ne_eqb, ltb-true, ltb-false, lt-ltb, le-ltb, le-leb, leb-true}
use Rattle.std.proofs.lemmas.Bool.Decides.{nat_tests}
use Rattle.std.proofs.lemmas.Grind.{flat_map-append}
use Rattle.std.proofs.lemmas.List.{take_at, take_all, drop-drop}
use Rattle.std.proofs.lemmas.Str.{encode_ascii, digit_value-digit_char}
use Rattle.prolog_tokens.specs.Numbers.{number_of}
use Rattle.prolog_tokens.specs.Characters.{is_quotable}
use Rattle.prolog_tokens.specs.Pieces.{escape_of}
use Rattle.prolog_tokens.specs.Forms.{Each, AreDigits, SpellsCharacter, itself, escaped, hexadecimal, IsBody, empty, character}
use Rattle.prolog_tokens.specs.Spelling.{is_plain_word, is_empty_list, spelled_byte, spelling}
use Rattle.prolog_tokens.specs.Spelling.{hexadecimal as hexadecimal_digits}
use Rattle.prolog_tokens.specs.Bytes.{is_small, is_word, is_graphic, is_layout, begins_with}
use Rattle.prolog_tokens.specs.Layout.{gap_len}
use Rattle.prolog_tokens.specs.Items.{item_len}
use Rattle.prolog_tokens.specs.Tokens.{token_at, item_of, mark_at}
use Rattle.prolog_tokens.specs.Cursor.{Cursor, next_of}
use Rattle.prolog_tokens.specs.Gaps.{begins_space}
use Rattle.prolog_tokens.specs.Decoding.{bytes_of, meaning_of}
use Rattle.prolog_tokens.specs.ReadBack.{lengthens_name, token_between, IsReadBack, IsListReadBack}
use Rattle.prolog_tokens.specs.declared.token.TokenKind.{TokenKind}
use Rattle.prolog_tokens.specs.declared.token.TokenKind.TheVariants as kind
use Rattle.prolog_tokens.proofs.CharacterLemmas.{either, and_true}
use Rattle.prolog_tokens.proofs.RunLemmas.{begins, Each-prefix, prefix_len-Each}
use Rattle.prolog_tokens.proofs.ItemLemmas.{characters_at_closing}
use Rattle.prolog_tokens.proofs.SpelledLemmas.{closing_piece}
use Rattle.prolog_tokens.proofs.BodyLemmas.{item_closed, item_characters-body}
use Rattle.prolog_tokens.proofs.FitLemmas.{token_at_single}
use Rattle.prolog_tokens.proofs.WholeGapLemmas.{gap_ends}
use Rattle.prolog_tokens.proofs.NextLemmas.{no_space_at, next_behind}
use Rattle.prolog_tokens.proofs.SpellingLemmas.{quoted, spelling_quoted}

-- the bytes of a character past ASCII are past ASCII
high_bytes : (c : ℕ) → 128 ≤ c → Each (λ b. nat_le 128 b) (encode_utf8 c)
unfolding encode_utf8
high_bytes c h = rw (le-ltb c 128 h) (⊎_elim (λ t. two t) (λ f. ⊎_elim (λ t. three f t) (λ g. four f g) (either (ltb c 65536))) (either (ltb c 2048)))
  where
    past : (n : ℕ) → 128 ≤ n → nat_le 128 n ≡ true
    past n k = le-leb 128 n k

    two : ltb c 2048 ≡ true → Each (λ b. nat_le 128 b) (if ltb c 2048 then (192 + c / 64) ∷ (128 + c % 64) ∷ [] else (if ltb c 65536 then (224 + c / 4096) ∷ (128 + c / 64 % 64) ∷ (128 + c % 64) ∷ [] else (240 + c / 262144) ∷ (128 + c / 4096 % 64) ∷ (128 + c / 64 % 64) ∷ (128 + c % 64) ∷ []))
    two t = rw t (past _ (omega arith), (past _ (omega arith), tt))

    three : ltb c 2048 ≡ false → ltb c 65536 ≡ true → Each (λ b. nat_le 128 b) (if ltb c 2048 then (192 + c / 64) ∷ (128 + c % 64) ∷ [] else (if ltb c 65536 then (224 + c / 4096) ∷ (128 + c / 64 % 64) ∷ (128 + c % 64) ∷ [] else (240 + c / 262144) ∷ (128 + c / 4096 % 64) ∷ (128 + c / 64 % 64) ∷ (128 + c % 64) ∷ []))
    three f t = rw (f, t) (past _ (omega arith), (past _ (omega arith), (past _ (omega arith), tt)))

    four : ltb c 2048 ≡ false → ltb c 65536 ≡ false → Each (λ b. nat_le 128 b) (if ltb c 2048 then (192 + c / 64) ∷ (128 + c % 64) ∷ [] else (if ltb c 65536 then (224 + c / 4096) ∷ (128 + c / 64 % 64) ∷ (128 + c % 64) ∷ [] else (240 + c / 262144) ∷ (128 + c / 4096 % 64) ∷ (128 + c / 64 % 64) ∷ (128 + c % 64) ∷ []))
    four f g = rw (f, g) (past _ (omega arith), (past _ (omega arith), (past _ (omega arith), (past _ (omega arith), tt))))

-- a byte past ASCII stands for itself
spelled_high : (b : ℕ) → 128 ≤ b → spelled_byte b ≡ b ∷ []
unfolding spelled_byte
spelled_high b h = rw (ne_eqb b 39 (λ e. omega (arith, e)), ne_eqb b 92 (λ e. omega (arith, e)), ne_eqb b 10 (λ e. omega (arith, e)), le-ltb b 32 (omega arith), ne_eqb b 127 (λ e. omega (arith, e))) refl

spelled_all_high : (bs : List ℕ) → Each (λ b. nat_le 128 b) bs → flat_map spelled_byte bs ≡ bs
spelled_all_high [] h = refl
spelled_all_high (b ∷ bs) h = rw (spelled_high b (leb-true 128 b h.0)) (ap (λ (xs : List ℕ). b ∷ xs) (spelled_all_high bs h.1))

-- hexadecimal digits
digit_of : (d b : ℕ) → digit_value d ≡ b → b < 16 → is_digit_in d 16 ≡ true
digit_of d b v h = ap (λ x. nat_lt x 16) v ∙ lt-ltb b 16 h

number_one : (d b : ℕ) → digit_value d ≡ b → b ≡ number_of 16 (d ∷ [])
number_one d b v = omega (arith, v)

number_two : (d e b : ℕ) → digit_value d ≡ b / 16 → digit_value e ≡ b % 16 → b ≡ number_of 16 (d ∷ e ∷ [])
number_two d e b v w = omega (arith, v, w)

-- a number by its digits
hexadecimal_are : (b : ℕ) → b < 128 → AreDigits 16 (hexadecimal_digits b) × (b ≡ number_of 16 (hexadecimal_digits b))
hexadecimal_are b h = ⊎_elim one two (either (nat_lt b 16))
  where
    one : nat_lt b 16 ≡ true → AreDigits 16 (hexadecimal_digits b) × (b ≡ number_of 16 (hexadecimal_digits b))
    one t =
        let small = ltb-true b 16 t in
        let v = digit_value-digit_char b (omega (arith, small)) in
        rw t ((digit_of (digit_char b) b v small, tt), number_one (digit_char b) b v)

    two : nat_lt b 16 ≡ false → AreDigits 16 (hexadecimal_digits b) × (b ≡ number_of 16 (hexadecimal_digits b))
    two f =
        let v = digit_value-digit_char (b / 16) (omega arith) in
        let w = digit_value-digit_char (b % 16) (omega arith) in
        rw f ((digit_of (digit_char (b / 16)) (b / 16) v (omega arith), (digit_of (digit_char (b % 16)) (b % 16) w (omega arith), tt)), number_two (digit_char (b / 16)) (digit_char (b % 16)) b v w)

or_right : (a : Bool) → (a || true) ≡ true
or_right true = refl
or_right false = refl

or_either : (a b : Bool) → (a || b) ≡ true → (a ≡ true) ⊎ (b ≡ true)
or_either true b h = inl refl
or_either false b h = inr h

or_neither : (a b : Bool) → (a || b) ≡ false → (a ≡ false) × (b ≡ false)
or_neither true b h = cc
or_neither false b h = (refl, h)

if_spells : (c : ℕ) (t : Bool) (x y : List ℕ) → (t ≡ true → SpellsCharacter 39 c x) → (t ≡ false → SpellsCharacter 39 c y) → SpellsCharacter 39 c (if t then x else y)
if_spells c true x y h k = h refl
if_spells c false x y h k = k refl

quotable_ascii : (c : ℕ) → 32 ≤ c → c ≤ 126 → is_quotable c ≡ true
quotable_ascii c low high = let l = le-leb 32 c low in let m = le-leb c 126 high in rw (l, m) (rw (or_right (c == 9)) refl)

quotable_high : (c : ℕ) → 128 ≤ c → is_quotable c ≡ true
quotable_high c h = let l = le-leb 128 c h in rw l (or_right ((c == 9) || (nat_le 32 c && nat_le c 126)))

escape_self : (c : ℕ) → ((c == 39) || (c == 92)) ≡ true → escape_of c ≡ Some c
unfolding escape_of
escape_self c h = ⊎_elim (λ t. rw (eqb-true c 39 t) refl) (λ t. rw (eqb-true c 92 t) refl) (or_either (c == 39) (c == 92) h)

escape_newline : (c : ℕ) → (c == 10) ≡ true → escape_of 110 ≡ Some c
unfolding escape_of
escape_newline c h = rw (eqb-true c 10 h) refl

-- a byte of ASCII spells itself
spelled_ascii : (c : ℕ) → c < 128 → SpellsCharacter 39 c (spelled_byte c)
unfolding spelled_byte
spelled_ascii c h =
    if_spells c ((c == 39) || (c == 92)) _ _ (λ t. escaped c (escape_self c t) refl)
    (λ q. if_spells c (c == 10) _ _ (λ t. escaped 110 (escape_newline c t) refl)
    (λ n. if_spells c (nat_lt c 32 || (c == 127)) _ _ by_number (λ k. plain q k)))
  where
    by_number : (nat_lt c 32 || (c == 127)) ≡ true → SpellsCharacter 39 c (92 ∷ 120 ∷ (hexadecimal_digits c ++ 92 ∷ []))
    by_number t = let are = hexadecimal_are c h in hexadecimal (hexadecimal_digits c) are.0 (low_scalar c (omega arith)) are.1 refl

    plain : ((c == 39) || (c == 92)) ≡ false → (nat_lt c 32 || (c == 127)) ≡ false → SpellsCharacter 39 c (c ∷ [])
    plain q k =
        let q' = or_neither (c == 39) (c == 92) q in
        let k' = or_neither (nat_lt c 32) (c == 127) k in
        let low = ltb-false c 32 k'.0 in
        let not_delete = eqb-false c 127 k'.1 in
        itself (low_scalar c (omega arith)) (quotable_ascii c low (omega (arith, not_delete))) (eqb-false c 39 q'.0) (eqb-false c 92 q'.1) (sym (encode_ascii c h))

-- a character is spelled by its bytes
spelled_character : (c : ℕ) → IsScalar c → SpellsCharacter 39 c (flat_map spelled_byte (encode_utf8 c))
spelled_character c scalar = ⊎_elim low high (either (nat_lt c 128))
  where
    low : nat_lt c 128 ≡ true → SpellsCharacter 39 c (flat_map spelled_byte (encode_utf8 c))
    low t =
        let small = ltb-true c 128 t in
        let e = encode_ascii c small in
        subst (SpellsCharacter 39 c) (sym (append-nil (spelled_byte c)) ∙ ap (flat_map spelled_byte) (sym e)) (spelled_ascii c small)

    high : nat_lt c 128 ≡ false → SpellsCharacter 39 c (flat_map spelled_byte (encode_utf8 c))
    high f =
        let large = ltb-false c 128 f in
        itself scalar (quotable_high c large) (λ e. omega (arith, e)) (λ e. omega (arith, e)) (spelled_all_high (encode_utf8 c) (high_bytes c large))

-- a name between quotes is a body
spelled_body : (cs : List ℕ) → all_scalars cs ≡ true → IsBody 39 cs (flat_map spelled_byte (encode_utf8_all cs))
spelled_body [] h = empty
spelled_body (c ∷ cs) h =
    let parts = and_true (scalar c) (all_scalars cs) h in
    let P : List ℕ → Type 0 = λ xs. IsBody 39 (c ∷ cs) xs in
    subst P (sym (flat_map-append spelled_byte (encode_utf8 c) (encode_utf8_all cs))) (character (spelled_character c parts.0) (spelled_body cs parts.1))

-- where a token stands at once, it is next
next_at : (c : Cursor) (text after : List ℕ) (of : TokenKind) → drop c.at c.text ≡ text ++ after → 0 < length text → begins_space (text ++ after) ≡ false
    → token_at (text ++ after) ≡ Ok (of, length text) → next_of c ≡ Ok (Some (token_between of c.at (c.at + length text)))
next_at c text after of whole some apart is =
    let len = ap length whole in
    let within : c.at < length c.text = omega (arith, len, length-append text after, length-drop c.at c.text) in
    let gap : gap_len 0 (drop c.at c.text) ≡ Ok 0 = ap (gap_len 0) whole ∙ gap_ends (text ++ after) (no_space_at (text ++ after) apart) in
    next_behind c (omega arith) [] (text ++ after) whole gap ∙ rw (add-zero c.at) (rw (lt-ltb c.at (length c.text) within) (rw is refl))

bytes_between : (c : Cursor) (text after : List ℕ) (of : TokenKind) → drop c.at c.text ≡ text ++ after → bytes_of c.text (token_between of c.at (c.at + length text)) ≡ text
bytes_between c text after of whole =
    let n : c.at + length text - c.at ≡ length text = omega arith in
    rw n (ap (take (length text)) whole ∙ take_at text after (length text) refl)

small_apart : (b : ℕ) → is_small b ≡ true → (is_layout b || (b == 37)) ≡ false
small_apart b h = grind (arith, nat_tests)

small_no_slash : (b : ℕ) → is_small b ≡ true → (b == 47) ≡ false
small_no_slash b h = grind (arith, nat_tests)

not_word : (bs : List ℕ) → lengthens_name bs ≡ false → begins is_word bs ≡ false
not_word [] h = refl
not_word (b ∷ bs) h = (or_neither (is_word b) (b == 39) h).0

not_quote : (bs : List ℕ) → lengthens_name bs ≡ false → begins_with 39 bs ≡ false
not_quote [] h = refl
not_quote (b ∷ bs) h = (or_neither (is_word b) (b == 39) h).1

-- a word
word_token : (name after : List ℕ) → is_plain_word name ≡ true → lengthens_name after ≡ false → (0 < length name) × (begins_space (name ++ after) ≡ false) × (token_at (name ++ after) ≡ Ok (kind.Name, length name))
word_token [] after h apart = cc
word_token (b ∷ bs) after h apart =
    let parts = and_true (is_small b) (prefix_len is_word bs == length bs) h in
    let all : prefix_len is_word bs ≡ length bs = eqb-true _ _ parts.1 in
    let P : List ℕ → Type 0 = λ xs. Each is_word xs in
    let each : Each is_word bs = subst P (ap (λ n. take n bs) all ∙ take_all (length bs) bs (omega arith)) (Each-prefix is_word bs) in
    let len : prefix_len is_word (bs ++ after) ≡ length bs = prefix_len-Each is_word bs after each (not_word after apart) in
    (omega arith, rw (small_apart b parts.0) (rw (small_no_slash b parts.0) refl), rw parts.0 (rw len (ap (λ n. Ok (kind.Name, n)) (omega arith))))

spelling_plain : (name : List ℕ) → is_plain_word name ≡ true → spelling name ≡ name
unfolding spelling
spelling_plain name h = rw h refl

word_read : (c : Cursor) (name after : List ℕ) → is_plain_word name ≡ true → lengthens_name after ≡ false → drop c.at c.text ≡ spelling name ++ after → IsReadBack c name
word_read c name after h apart whole =
    let plain = spelling_plain name h in
    let here : drop c.at c.text ≡ name ++ after = whole ∙ ap (λ (xs : List ℕ). xs ++ after) plain in
    let t = word_token name after h apart in
    record {
      kind = kind.Name;
      is_name = inl refl;
      read = rw plain (next_at c name after kind.Name here t.0 t.1 t.2);
      meaning = rw plain (bytes_between c name after kind.Name here);
    }

-- a name between quotes
quoted_token : (name after : List ℕ) (cs : List ℕ) → IsBody 39 cs (flat_map spelled_byte name) → lengthens_name after ≡ false → token_at (quoted name ++ after) ≡ Ok (kind.Quoted, length (quoted name))
quoted_token name after cs body apart =
    let all : (flat_map spelled_byte name ++ 39 ∷ []) ++ after ≡ flat_map spelled_byte name ++ 39 ∷ after = append_assoc (flat_map spelled_byte name) (39 ∷ []) after in
    token_at_single ((flat_map spelled_byte name ++ 39 ∷ []) ++ after)
    ∙ ap (λ (xs : List ℕ). item_of kind.Quoted (item_len 39 0 xs)) all
    ∙ ap (item_of kind.Quoted) (item_closed 39 after (inl refl) body (not_quote after apart))
    ∙ ap (λ n. Ok (kind.Quoted, n)) (omega (arith, length-append (flat_map spelled_byte name) (39 ∷ [])))

quoted_meaning : (name cs : List ℕ) → IsBody 39 cs (flat_map spelled_byte name) → encode_utf8_all cs ≡ name → meaning_of kind.Quoted (quoted name) ≡ name
quoted_meaning name cs body is =
    ap encode_utf8_all (item_characters-body 39 (39 ∷ []) (inl refl) body ∙ ap (λ (xs : List ℕ). cs ++ xs) (characters_at_closing 39 (39 ∷ []) (sym (closing_piece 39 [] refl))) ∙ append-nil cs) ∙ is

quoted_read : (c : Cursor) (name after : List ℕ) → IsUtf8 name → is_plain_word name ≡ false → is_empty_list name ≡ false → lengthens_name after ≡ false → drop c.at c.text ≡ spelling name ++ after → IsReadBack c name
quoted_read c name after text word list apart whole =
    let plain = spelling_quoted name word list in
    let here : drop c.at c.text ≡ quoted name ++ after = whole ∙ ap (λ (xs : List ℕ). xs ++ after) plain in
    let P : List ℕ → Type 0 = λ xs. IsBody 39 text.0 (flat_map spelled_byte xs) in
    let body = subst P text.1.1 (spelled_body text.0 text.1.0) in
    record {
      kind = kind.Quoted;
      is_name = inr refl;
      read = rw plain (next_at c (quoted name) after kind.Quoted here (omega arith) refl (quoted_token name after text.0 body apart));
      meaning = rw plain (ap (meaning_of kind.Quoted) (bytes_between c (quoted name) after kind.Quoted here) ∙ quoted_meaning name text.0 body text.1.1);
    }

pub name_read : (c : Cursor) (name after : List ℕ) → IsUtf8 name → is_empty_list name ≡ false → lengthens_name after ≡ false → drop c.at c.text ≡ spelling name ++ after → IsReadBack c name
name_read c name after text list apart whole =
    ⊎_elim (λ t. word_read c name after t apart whole) (λ f. quoted_read c name after text f list apart whole) (either (is_plain_word name))

-- the name `[]`
spelling_list : spelling (91 ∷ 93 ∷ []) ≡ 91 ∷ 93 ∷ []
unfolding spelling
spelling_list = refl

bracket_token : (after : List ℕ) → token_at (91 ∷ after) ≡ Ok (kind.List, 1)
unfolding mark_at is_graphic
bracket_token after = refl

bracket_end_token : (after : List ℕ) → token_at (93 ∷ after) ≡ Ok (kind.ListEnd, 1)
unfolding mark_at is_graphic
bracket_end_token after = refl

pub list_read : (c : Cursor) (after : List ℕ) → drop c.at c.text ≡ spelling (91 ∷ 93 ∷ []) ++ after → IsListReadBack c
list_read c after whole =
    let here : drop c.at c.text ≡ 91 ∷ 93 ∷ after = whole ∙ ap (λ (xs : List ℕ). xs ++ after) spelling_list in
    let next : drop (c.at + 1) c.text ≡ 93 ∷ after = sym (drop-drop 1 c.at c.text) ∙ ap (drop 1) here in
    record {
      begins = next_at c (91 ∷ []) (93 ∷ after) kind.List here (omega arith) refl (bracket_token (93 ∷ after));
      ends = next_at (record { text = c.text; at = c.at + 1 }) (93 ∷ []) after kind.ListEnd next (omega arith) refl (bracket_end_token after) ∙ ap (λ n. Ok (Some (token_between kind.ListEnd (c.at + 1) n))) (omega arith);
    }
