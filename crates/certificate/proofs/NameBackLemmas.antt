-- Names that are printed are read back.
use Rattle.std.proofs.Common.{◌≡◌, ℕ, suc, ◌+◌, ◌*◌, ◌/◌, ◌%◌, ◌<◌, ◌==◌, nat_lt, Bool, true, false, ◌||◌, if◌then◌else◌, List, [], ◌∷◌, ◌++◌, length, Some, None, option_map, option_and_then, refl, ap, ◌∙◌, arith, lit≤, append_assoc, drop_at, take_at, ne_eqb, eqb-true, lt-ltb}
use Rattle.std.proofs.lemmas.Bool.{ltb-true}
use Rattle.std.proofs.lemmas.Bool.{false≢true, and_parts}
use Rattle.std.proofs.lemmas.Bool.Decides.{nat_tests}
use Rattle.std.proofs.lemmas.Str.{digit_value-digit_char, is_utf8-from_IsUtf8}
use Rattle.std.specs.Prelude.{codes, decimal, flat_map}
use Rattle.std.specs.Char.{digit_value, digit_char}
use Rattle.std.specs.List.{prefix_len}
use Rattle.std.specs.Str.{IsUtf8, is_utf8}
use Rattle.prolog_tokens.specs.Bytes.{is_small, is_word}
use Rattle.prolog_tokens.specs.Spelling.{is_plain_word, is_empty_list, hexadecimal, spelled_byte, spelling}
use Rattle.certificate.specs.Parse.{Read, kept, after, read_byte, read_code, read_hexadecimal, word_len, read_quoted, read_name, read_pred, read_until, with_first}
use Rattle.certificate.specs.Shortening.{byte_shortens_in_quotes, until_step, until_stop}
use Rattle.certificate.specs.Range.{IsPred}
use Rattle.certificate.specs.Text.{indicator}
use Rattle.certificate.proofs.BackLemmas.{IsReadBack, natural_back}

-- a letter, a digit or an underscore is neither a slash nor a quote
word_byte : (b : ℕ) → is_word b ≡ true → (b == 47) ≡ false
word_byte b h = grind (arith, nat_tests)

small_byte : (b : ℕ) → is_small b ≡ true → (b == 47) ≡ false
small_byte b h = grind (arith, nat_tests)

small_unquoted : (b : ℕ) → is_small b ≡ true → (b == 39) ≡ false
small_unquoted b h = grind (arith, nat_tests)

-- the slash ends a word
word_end : (bs s : List ℕ) → prefix_len is_word bs ≡ length bs → word_len (bs ++ 47 ∷ s) ≡ length bs
word_end [] s h = refl
word_end (b ∷ bs) s h = go (is_word b) refl h (word_end bs s)
  where
    go : (c : Bool) → is_word b ≡ c → (if c then 1 + prefix_len is_word bs else 0) ≡ suc (length bs) → (prefix_len is_word bs ≡ length bs → word_len (bs ++ 47 ∷ s) ≡ length bs)
        → word_len (b ∷ bs ++ 47 ∷ s) ≡ suc (length bs)
    go true e f more = let rest = more (omega (arith, f)) in rw (word_byte b e) (omega (arith, rest))
    go false e f more = absurd (omega (arith, f))

-- a name that is read whole as it stands
plain_back : (name s : List ℕ) → word_len (name ++ 47 ∷ s) ≡ length name → after (codes "'") (name ++ 47 ∷ s) ≡ None
    → read_quoted (after (codes "'") (name ++ 47 ∷ s)) (name ++ 47 ∷ s) ≡ Some (name, 47 ∷ s)
plain_back name s len unquoted = rw (unquoted, len, take_at name (47 ∷ s) _ refl, drop_at name (47 ∷ s) _ refl) refl

word_back : (name s : List ℕ) → is_plain_word name ≡ true → read_quoted (after (codes "'") (name ++ 47 ∷ s)) (name ++ 47 ∷ s) ≡ Some (name, 47 ∷ s)
word_back [] s h = absurd (false≢true h)
word_back (b ∷ bs) s h =
    let (first, others) = and_parts (is_small b) (prefix_len is_word bs == length bs) h in
    let rest = word_end bs s (eqb-true (prefix_len is_word bs) (length bs) others) in
    plain_back (b ∷ bs) s (rw (small_byte b first) (omega (arith, rest))) (rw (small_unquoted b first) refl)

brackets_back : (name s : List ℕ) → is_empty_list name ≡ true → read_quoted (after (codes "'") (name ++ 47 ∷ s)) (name ++ 47 ∷ s) ≡ Some (name, 47 ∷ s)
brackets_back [] s h = absurd (false≢true h)
brackets_back (b ∷ []) s h = absurd (false≢true h)
brackets_back (b ∷ c ∷ []) s h =
    let (first, second) = and_parts (b == 91) (c == 93) h in
    rw (eqb-true b 91 first, eqb-true c 93 second) refl
brackets_back (b ∷ c ∷ d ∷ bs) s h = absurd (false≢true h)

-- a hexadecimal digit is read, and is not a backslash
digit_back : (d : ℕ) (t : List ℕ) → d < 16 → read_hexadecimal (digit_char d ∷ t) ≡ Some (d, t)
digit_back d t small = rw (digit_value-digit_char d (omega (arith, small)), lt-ltb d 16 small) refl

no_backslash : (d : ℕ) → d < 16 → (digit_char d == 92) ≡ false
no_backslash d small = ne_eqb (digit_char d) 92 λ e. let value : digit_value 92 ≡ d = rw e at (digit_value-digit_char d (omega (arith, small))) in let large : 36 ≡ d = value in omega (arith, large, small)

-- a byte by its digits
code_back : (b : ℕ) (t : List ℕ) → b < 128 → read_code (hexadecimal b ++ 92 ∷ t) ≡ Some (b, t)
code_back b t small = go (nat_lt b 16) refl
  where
    go : (c : Bool) → nat_lt b 16 ≡ c → read_code ((if c then digit_char b ∷ [] else digit_char (b / 16) ∷ digit_char (b % 16) ∷ []) ++ 92 ∷ t) ≡ Some (b, t)
    go true e = rw (digit_back b (92 ∷ t) (ltb-true b 16 e)) refl
    go false e =
        let sum : b / 16 * 16 + b % 16 ≡ b = omega arith in
        rw (digit_back (b / 16) (digit_char (b % 16) ∷ 92 ∷ t) (omega arith), no_backslash (b % 16) (omega arith), digit_back (b % 16) (92 ∷ t) (omega arith), sum) refl

-- a byte between quotes
byte_back : (b : ℕ) (t : List ℕ) → read_byte (spelled_byte b ++ t) ≡ Some (b, t)
unfolding read_byte spelled_byte
byte_back b t = go (b == 39) (b == 92) (b == 10) (nat_lt b 32) (b == 127) refl refl refl refl refl
  where
    shown : Bool → Bool → Bool → Bool → Bool → List ℕ
    shown c d e f g = if c || d then 92 ∷ b ∷ [] else if e then 92 ∷ 110 ∷ [] else if f || g then 92 ∷ 120 ∷ hexadecimal b ++ 92 ∷ [] else b ∷ []

    go : (c d e f g : Bool) → (b == 39) ≡ c → (b == 92) ≡ d → (b == 10) ≡ e → nat_lt b 32 ≡ f → (b == 127) ≡ g → read_byte (shown c d e f g ++ t) ≡ Some (b, t)
    go true d e f g q r n l m = rw (eqb-true b 39 q) refl
    go false true e f g q r n l m = rw (eqb-true b 92 r) refl
    go false false true f g q r n l m = rw (eqb-true b 10 n) refl
    go false false false true g q r n l m = ap read_code (append_assoc (hexadecimal b) (92 ∷ []) t) ∙ code_back b t (let small = ltb-true b 32 l in omega (arith, small))
    go false false false false true q r n l m = ap read_code (append_assoc (hexadecimal b) (92 ∷ []) t) ∙ code_back b t (let same = eqb-true b 127 m in omega (arith, same))
    go false false false false false q r n l m = rw r refl

-- a byte between quotes begins with no quote
byte_other : (b : ℕ) → (c : ℕ) × (bs : List ℕ) × (spelled_byte b ≡ c ∷ bs) × ((c == 39) ≡ false)
unfolding spelled_byte
byte_other b = go (b == 39) (b == 92) (b == 10) (nat_lt b 32) (b == 127) refl
  where
    shown : Bool → Bool → Bool → Bool → Bool → List ℕ
    shown c d e f g = if c || d then 92 ∷ b ∷ [] else if e then 92 ∷ 110 ∷ [] else if f || g then 92 ∷ 120 ∷ hexadecimal b ++ 92 ∷ [] else b ∷ []

    go : (q d e f g : Bool) → (b == 39) ≡ q → (c : ℕ) × (bs : List ℕ) × (shown q d e f g ≡ c ∷ bs) × ((c == 39) ≡ false)
    go true d e f g q = (92, b ∷ [], refl, refl)
    go false true e f g q = (92, b ∷ [], refl, refl)
    go false false true f g q = (92, 110 ∷ [], refl, refl)
    go false false false true g q = (92, 120 ∷ hexadecimal b ++ 92 ∷ [], refl, refl)
    go false false false false true q = (92, 120 ∷ hexadecimal b ++ 92 ∷ [], refl, refl)
    go false false false false false q = (b, [], refl, q)

-- the bytes up to the closing quote
quoted_back : (name s : List ℕ) → read_until 39 read_byte (flat_map spelled_byte name ++ 39 ∷ s) ≡ Some (name, s)
quoted_back [] s = until_stop 39 read_byte 39 s refl
quoted_back (b ∷ bs) s =
    let (c, cs, e, other) = byte_other b in
    let rest = flat_map spelled_byte bs ++ 39 ∷ s in
    let step : read_until 39 read_byte (spelled_byte b ++ rest)
    ≡ option_and_then (λ p. option_map (with_first p.0) (read_until 39 read_byte p.1)) (read_byte (spelled_byte b ++ rest))
    = rw e (until_step 39 read_byte byte_shortens_in_quotes c (cs ++ rest) other) in
    ap (read_until 39 read_byte) (append_assoc (spelled_byte b) (flat_map spelled_byte bs) (39 ∷ s)) ∙ step ∙ rw (byte_back b rest, quoted_back bs s) refl

pub name_back : (name s : List ℕ) → IsUtf8 name → read_name (spelling name ++ 47 ∷ s) ≡ Some (name, 47 ∷ s)
unfolding read_name spelling
name_back name s valid = go (is_plain_word name) (is_empty_list name) refl refl
  where
    shown : Bool → Bool → List ℕ
    shown c d = if c || d then name else 39 ∷ flat_map spelled_byte name ++ 39 ∷ []

    read : List ℕ → Read (List ℕ)
    read u = read_quoted (after (codes "'") u) u

    at_once : (u : List ℕ) → read u ≡ Some (name, 47 ∷ s) → kept is_utf8 (read u) ≡ Some (name, 47 ∷ s)
    at_once u e = rw (e, is_utf8-from_IsUtf8 name valid) refl

    go : (c d : Bool) → is_plain_word name ≡ c → is_empty_list name ≡ d → kept is_utf8 (read (shown c d ++ 47 ∷ s)) ≡ Some (name, 47 ∷ s)
    go true d e f = at_once (name ++ 47 ∷ s) (word_back name s e)
    go false true e f = at_once (name ++ 47 ∷ s) (brackets_back name s f)
    go false false e f = at_once ((39 ∷ flat_map spelled_byte name ++ 39 ∷ []) ++ 47 ∷ s) (ap (read_until 39 read_byte) (append_assoc (flat_map spelled_byte name) (39 ∷ []) (47 ∷ s)) ∙ quoted_back name (47 ∷ s))

pub pred_back : IsReadBack indicator read_pred IsPred
unfolding read_pred
pred_back p b s h mark =
    let whole : indicator p ++ b ∷ s ≡ spelling p.name ++ (47 ∷ (decimal p.arity ++ b ∷ s)) = simp append_assoc in
    rw (whole, name_back p.name (decimal p.arity ++ b ∷ s) h.0, natural_back 12 p.arity b s (lit≤ tt) h.1 mark) refl
