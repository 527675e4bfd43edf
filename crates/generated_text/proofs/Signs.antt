-- The tokens of generated clauses: what they are spelled by, and that they are read.
use Rattle.std.proofs.Common.{◌≡◌, ℕ, ◌+◌, ◌-◌, ◌<◌, ◌≤◌, ◌&&◌, not, Bool, true, false, List, [], ◌∷◌, ◌++◌, codes, decimal, length, take, drop, Option, Some, Ok, refl, sym, ◌∙◌, ap, length-append, length-drop, arith}
use Rattle.std.specs.List.{prefix_len}
use Rattle.std.specs.Str.Parse.{AllDigits}
use Rattle.std.proofs.lemmas.Fmt.{decimal_is_IsNumeral}
use Rattle.std.proofs.lemmas.Str.Parse.{digit_from_value}
use Rattle.std.proofs.lemmas.Bool.{lt-ltb}
use Rattle.std.proofs.lemmas.Bool.Decides.{nat_tests}
use Rattle.std.proofs.lemmas.List.{take_at, drop_at, drop-drop}
use Rattle.prolog_tokens.specs.Bytes.{is_small, is_capital, is_word, is_graphic, ends_clause}
use Rattle.prolog_tokens.specs.Forms.{Each}
use Rattle.prolog_tokens.specs.Layout.{gap_len}
use Rattle.prolog_tokens.specs.Places.{further}
use Rattle.prolog_tokens.specs.Gaps.{begins_space}
use Rattle.prolog_tokens.specs.Decoding.{bytes_of}
use Rattle.prolog_tokens.proofs.WholeGapLemmas.{gap_ends}
use Rattle.prolog_tokens.specs.Tokens.{token_at, mark_at}
use Rattle.prolog_tokens.specs.Cursor.{Cursor, next_of}
use Rattle.prolog_tokens.specs.Stream.{Lexes, goes_on}
use Rattle.prolog_tokens.specs.declared.token.TokenKind.{TokenKind}
use Rattle.prolog_tokens.specs.declared.token.TokenKind.TheVariants as kind
use Rattle.prolog_tokens.specs.declared.token.Token.{Token}
use Rattle.prolog_tokens.specs.declared.fault.LexFault.{LexFault}
use Rattle.prolog_tokens.proofs.RunLemmas.{begins, prefix_len-Each}
use Rattle.prolog_tokens.proofs.NextLemmas.{no_space_at, next_behind}

-- a token of a generated clause: the name of a predicate by its number, a variable of one capital letter, `:-`, a mark,
-- or the end
pub data Sign : Type 0 where
  name : ℕ → Sign
  letter : ℕ → Sign
  neck : Sign
  paren : Sign
  paren_end : Sign
  list : Sign
  list_end : Sign
  comma : Sign
  bar : Sign
  stop : Sign

-- the name of a predicate
abbrev pub name_of : ℕ → List ℕ
name_of k = 112 ∷ decimal k

abbrev pub bytes : Sign → List ℕ
bytes (name k) = name_of k
bytes (letter b) = b ∷ []
bytes neck = codes ":-"
bytes paren = codes "("
bytes paren_end = codes ")"
bytes list = codes "["
bytes list_end = codes "]"
bytes comma = codes ","
bytes bar = codes "|"
bytes stop = codes "."

abbrev pub kind_of : Sign → TokenKind
kind_of (name k) = kind.Name
kind_of (letter b) = kind.Var
kind_of neck = kind.Name
kind_of paren = kind.Paren
kind_of paren_end = kind.ParenEnd
kind_of list = kind.List
kind_of list_end = kind.ListEnd
kind_of comma = kind.Comma
kind_of bar = kind.Bar
kind_of stop = kind.End

-- a token with what stands before it: nothing or a space
pub data Entry : Type 0 where
  at_once : Sign → Entry
  spaced : Sign → Entry

abbrev pub gap : Entry → List ℕ
gap (at_once s) = []
gap (spaced s) = 32 ∷ []

abbrev pub sign : Entry → Sign
sign (at_once s) = s
sign (spaced s) = s

-- the bytes of tokens, and then others
abbrev pub spelled : List Entry → List ℕ → List ℕ
spelled [] after = after
spelled (e ∷ es) after = gap e ++ (bytes (sign e) ++ spelled es after)

-- the bytes after a token end it
abbrev pub ends_sign : Sign → List ℕ → Bool
ends_sign (name k) after = not (begins is_word after)
ends_sign (letter b) after = is_capital b && not (begins is_word after)
ends_sign neck after = not (begins is_graphic after)
ends_sign stop after = ends_clause after
ends_sign _ after = true

abbrev pub end_signs : List Entry → List ℕ → Bool
end_signs [] after = true
end_signs (e ∷ es) after = ends_sign (sign e) (spelled es after) && end_signs es after

-- the digits of a number are bytes of words
digit_is_word : (d : ℕ) → 48 ≤ d → d ≤ 57 → is_word d ≡ true
digit_is_word d low high = grind (arith, nat_tests)

digits_are_words : (ds : List ℕ) → AllDigits 10 ds → Each is_word ds
digits_are_words [] h = tt
digits_are_words (d ∷ ds) h =
    let r = digit_from_value d h.0 in
    (digit_is_word d (omega (arith, r)) (omega (arith, r)), digits_are_words ds h.1)

pub decimal_words : (k : ℕ) → k < 1000 → Each is_word (decimal k)
decimal_words k few = digits_are_words (decimal k) (decimal_is_IsNumeral k (omega (arith, few))).0.1

not_true : (b : Bool) → not b ≡ true → b ≡ false
not_true true h = cc
not_true false h = refl

pub both : (a b : Bool) → (a && b) ≡ true → (a ≡ true) × (b ≡ true)
both true b h = (refl, h)
both false b h = cc

capital_is_large : (b : ℕ) → is_capital b ≡ true → is_small b ≡ false
capital_is_large b h = grind (arith, nat_tests)

no_word : (p : ℕ → Bool) (after : List ℕ) → begins p after ≡ false → prefix_len p after ≡ 0
no_word p after h = prefix_len-Each p [] after tt h

-- each number of a name is small
abbrev pub IsFew : Sign → Type 0
IsFew (name k) = k < 1000
IsFew _ = Unit {0}

-- a token is read, where the bytes after it end it
pub token_is : (s : Sign) (after : List ℕ) → IsFew s → ends_sign s after ≡ true → token_at (bytes s ++ after) ≡ Ok (kind_of s, length (bytes s))
unfolding is_graphic mark_at
token_is (name k) after few h =
    let len = prefix_len-Each is_word (decimal k) after (decimal_words k few) (not_true (begins is_word after) h) in
    rw len (ap (λ n. Ok (kind.Name, n)) (omega arith))
token_is (letter b) after few h =
    let parts = both (is_capital b) (not (begins is_word after)) h in
    let len = no_word is_word after (not_true (begins is_word after) parts.1) in
    rw (capital_is_large b parts.0, parts.0) (rw len refl)
token_is neck after few h = rw (no_word is_graphic after (not_true (begins is_graphic after) h)) refl
token_is paren after few h = refl
token_is paren_end after few h = refl
token_is list after few h = refl
token_is list_end after few h = refl
token_is comma after few h = refl
token_is bar after few h = refl
token_is stop after few h = rw h refl

-- no token of a generated clause is layout
no_gap_at : (s : Sign) (after : List ℕ) → ends_sign s after ≡ true → begins_space (bytes s ++ after) ≡ false
no_gap_at (name k) after h = refl
no_gap_at (letter b) after h = grind (arith, nat_tests, both (is_capital b) (not (begins is_word after)) h)
no_gap_at neck after h = refl
no_gap_at paren after h = refl
no_gap_at paren_end after h = refl
no_gap_at list after h = refl
no_gap_at list_end after h = refl
no_gap_at comma after h = refl
no_gap_at bar after h = refl
no_gap_at stop after h = refl

gap_at : (e : Entry) (after : List ℕ) → ends_sign (sign e) after ≡ true → gap_len 0 (gap e ++ (bytes (sign e) ++ after)) ≡ Ok (length (gap e))
gap_at (at_once s) after h = gap_ends (bytes s ++ after) (no_space_at (bytes s ++ after) (no_gap_at s after h))
gap_at (spaced s) after h = ap (further 1) (gap_ends (bytes s ++ after) (no_space_at (bytes s ++ after) (no_gap_at s after h)))

some_bytes : (s : Sign) → 0 < length (bytes s)
some_bytes (name k) = omega arith
some_bytes (letter b) = omega arith
some_bytes neck = omega arith
some_bytes paren = omega arith
some_bytes paren_end = omega arith
some_bytes list = omega arith
some_bytes list_end = omega arith
some_bytes comma = omega arith
some_bytes bar = omega arith
some_bytes stop = omega arith

-- where a token begins after a place, and ends
abbrev pub begin_of : ℕ → Entry → ℕ
begin_of at e = at + length (gap e)

abbrev pub end_of : ℕ → Entry → ℕ
end_of at e = begin_of at e + length (bytes (sign e))

abbrev pub token_of : ℕ → Entry → Token
token_of at e = record { kind = kind_of (sign e); start = begin_of at e; end = end_of at e }

abbrev pub tokens : ℕ → List Entry → List Token
tokens at [] = []
tokens at (e ∷ es) = token_of at e ∷ tokens (end_of at e) es

abbrev pub behind : ℕ → List Entry → ℕ
behind at [] = at
behind at (e ∷ es) = behind (end_of at e) es

abbrev pub AreFew : List Entry → Type 0
AreFew [] = Unit {0}
AreFew (e ∷ es) = IsFew (sign e) × AreFew es

module _ (text : List ℕ) where
  abbrev pub here : ℕ → Cursor
  here at = record { text = text; at = at }

  -- what stands after a part of what stands at a place
  pub past : (at : ℕ) (part after : List ℕ) → drop at text ≡ part ++ after → drop (at + length part) text ≡ after
  past at part after whole = sym (drop-drop (length part) at text) ∙ ap (drop (length part)) whole ∙ drop_at part after (length part) refl

  within : (at : ℕ) (after : List ℕ) → drop at text ≡ after → 0 < length after → at < length text
  within at after whole some = omega (arith, ap length whole, length-drop at text, some)

  pub next_is : (at : ℕ) (e : Entry) (after : List ℕ) → IsFew (sign e) → ends_sign (sign e) after ≡ true → drop at text ≡ gap e ++ (bytes (sign e) ++ after)
      → next_of (here at) ≡ Ok (Some (token_of at e))
  next_is at e after few h whole =
      let all = bytes (sign e) ++ after in
      let some : 0 < length all = omega (arith, length-append (bytes (sign e)) after, some_bytes (sign e)) in
      let inside : at + length (gap e) < length text = within (at + length (gap e)) all (past at (gap e) all whole) some in
      next_behind (here at) (omega (arith, inside)) (gap e) all whole (ap (gap_len 0) whole ∙ gap_at e after h)
      ∙ rw (lt-ltb (at + length (gap e)) (length text) inside, token_is (sign e) after few h) refl

  pub next_part : (at : ℕ) (e : Entry) (after : List ℕ) → drop at text ≡ gap e ++ (bytes (sign e) ++ after) → drop (end_of at e) text ≡ after
  next_part at e after whole = past (begin_of at e) (bytes (sign e)) after (past at (gap e) (bytes (sign e) ++ after) whole)

  -- the bytes of a token are those of its sign
  pub bytes_are : (at : ℕ) (e : Entry) (after : List ℕ) → drop at text ≡ gap e ++ (bytes (sign e) ++ after) → bytes_of text (token_of at e) ≡ bytes (sign e)
  bytes_are at e after whole =
      let n : end_of at e - begin_of at e ≡ length (bytes (sign e)) = omega arith in
      rw n (ap (take (length (bytes (sign e)))) (past at (gap e) (bytes (sign e) ++ after) whole) ∙ take_at (bytes (sign e)) after (length (bytes (sign e))) refl)

  -- what stands after all these tokens
  pub after_all : (at : ℕ) (es : List Entry) (after : List ℕ) → drop at text ≡ spelled es after → drop (behind at es) text ≡ after
  after_all at [] after whole = whole
  after_all at (e ∷ es) after whole = after_all (end_of at e) es after (next_part at e (spelled es after) whole)

  -- they are read, and then what follows them
  pub lexes_on : (at : ℕ) (es : List Entry) (after : List ℕ) (us : List Token) (f : Option LexFault) → AreFew es → end_signs es after ≡ true → drop at text ≡ spelled es after
      → Lexes (here (behind at es)) us f → Lexes (here at) (tokens at es ++ us) f
  lexes_on at [] after us f few h whole later = later
  lexes_on at (e ∷ es) after us f few h whole later =
      let parts = both (ends_sign (sign e) (spelled es after)) (end_signs es after) h in
      goes_on (next_is at e (spelled es after) few.0 parts.0 whole)
      (lexes_on (end_of at e) es after us f few.1 parts.1 (next_part at e (spelled es after) whole) later)
