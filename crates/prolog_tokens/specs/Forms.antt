-- Private.
-- What a token is, the longest text of one of the token forms at its place, and what its faults are.
--
-- To believe: `SpellsCharacter`, `IsBody`, `SpellsInteger`, `IsOfForm`, `IsLongest`, `IsFault`.
-- Source: ISO/IEC 13211-1:1995, 6.4, in this project's profile.
use Rattle.std.specs.Prelude.{◌≡◌, ◌≢◌, ℕ, ◌+◌, ◌≤◌, ◌<◌, ◌^◌, ◌||◌, ◌==◌, Bool, true, false, List, [], ◌∷◌, ◌++◌, length, pos, Some, ◌⊎◌}
use Rattle.std.specs.Char.{IsScalar, encode_utf8, is_digit as is_digit_in}
use Rattle.prolog_tokens.specs.Bytes.{is_small, is_capital, is_word, is_graphic, begins_with, begins_comment, ends_clause}
use Rattle.prolog_tokens.specs.Places.{fault_at}
use Rattle.prolog_tokens.specs.Numbers.{number_of}
use Rattle.prolog_tokens.specs.Characters.{is_quotable}
use Rattle.prolog_tokens.specs.Pieces.{escape_of}
use Rattle.prolog_tokens.specs.declared.token.TokenKind.{TokenKind}
use Rattle.prolog_tokens.specs.declared.token.TokenKind.TheVariants.{Name, Quoted, Var, Int, Text, Paren, ParenEnd, List as OpenList, ListEnd, Curly, CurlyEnd, Comma, Bar, End}
use Rattle.prolog_tokens.specs.declared.fault.LexKind.TheVariants.{BadByte, Unclosed, BadEscape, Float, WideNumber}
use Rattle.prolog_tokens.specs.declared.fault.LexFault.{LexFault}

-- each byte passes the test
abbrev pub Each : (ℕ → Bool) → List ℕ → Type 0
Each p [] = Unit {0}
Each p (b ∷ bs) = (p b ≡ true) × Each p bs

-- one byte that passes the first test, and then bytes that pass the second
abbrev pub IsRun : (ℕ → Bool) → (ℕ → Bool) → List ℕ → Type 0
IsRun p q [] = ⊥
IsRun p q (b ∷ bs) = (p b ≡ true) × Each q bs

-- at least one digit of the base
abbrev pub AreDigits : ℕ → List ℕ → Type 0
AreDigits base text = IsRun (λ b. is_digit_in b base) (λ b. is_digit_in b base) text

-- The text spells the character c between quotes of this kind: by the quote doubled; by itself; by a backslash and one
-- letter or mark; or by its number between `\x` and a backslash, or in octal digits between two backslashes.
pub data SpellsCharacter (quote c : ℕ) (text : List ℕ) : Type 0 where
  doubled : c ≡ quote → text ≡ quote ∷ quote ∷ [] → SpellsCharacter quote c text
  itself : IsScalar c → is_quotable c ≡ true → c ≢ quote → c ≢ 92 → text ≡ encode_utf8 c → SpellsCharacter quote c text
  escaped : (b : ℕ) → escape_of b ≡ Some c → text ≡ 92 ∷ b ∷ [] → SpellsCharacter quote c text
  hexadecimal : (digits : List ℕ) → AreDigits 16 digits → IsScalar c → c ≡ number_of 16 digits → text ≡ 92 ∷ 120 ∷ (digits ++ 92 ∷ []) → SpellsCharacter quote c text
  octal : (digits : List ℕ) → AreDigits 8 digits → IsScalar c → c ≡ number_of 8 digits → text ≡ 92 ∷ (digits ++ 92 ∷ []) → SpellsCharacter quote c text

-- no character is spelled at the front of the bytes
abbrev pub SpellsNone : ℕ → List ℕ → Type 0
SpellsNone quote bytes = (c : ℕ) (text after : List ℕ) → bytes ≡ text ++ after → SpellsCharacter quote c text → ⊥

-- the characters of an item, and the text between its quotes: a backslash before a newline stands for none
pub data IsBody (quote : ℕ) : List ℕ → List ℕ → Type 0 where
  empty : IsBody quote [] []
  character : {c : ℕ} {cs part rest : List ℕ} → SpellsCharacter quote c part → IsBody quote cs rest → IsBody quote (c ∷ cs) (part ++ rest)
  dropped : {cs rest : List ℕ} → IsBody quote cs rest → IsBody quote cs (92 ∷ 10 ∷ rest)

-- an item, where those bytes follow it: its last quote is not doubled
pub record IsItem (quote : ℕ) (text after : List ℕ) : Type 0 where
  pub characters : List ℕ
  pub body : List ℕ
  pub is_body : IsBody quote characters body
  pub whole : text ≡ quote ∷ (body ++ quote ∷ [])
  pub apart : begins_with quote after ≡ false

-- the letter of a base after `0`
pub data IsBase : ℕ → ℕ → Type 0 where
  hexadecimal_base : IsBase 16 120
  octal_base : IsBase 8 111
  binary_base : IsBase 2 98

-- the text spells the integer n: decimal digits; `0x`, `0o` or `0b` and digits of that base; or `0'` and a character
pub data SpellsInteger (n : ℕ) (text : List ℕ) : Type 0 where
  decimal : AreDigits 10 text → n ≡ number_of 10 text → SpellsInteger n text
  based : (base letter : ℕ) (digits : List ℕ) → IsBase base letter → AreDigits base digits → n ≡ number_of base digits → text ≡ 48 ∷ letter ∷ digits → SpellsInteger n text
  code : (part : List ℕ) → SpellsCharacter 39 n part → text ≡ 48 ∷ 39 ∷ part → SpellsInteger n text

-- the first of the bytes is a graphic character
abbrev pub begins_graphic : List ℕ → Bool
begins_graphic [] = false
begins_graphic (b ∷ bs) = is_graphic b

-- a whole run of graphic characters that begins no comment and is not an end of a clause
pub record IsGraphicName (text after : List ℕ) : Type 0 where
  pub run : IsRun is_graphic is_graphic text
  pub ended : begins_graphic after ≡ false
  pub no_comment : begins_comment text ≡ false
  pub no_end : text ≡ 46 ∷ [] → ends_clause after ≡ true → ⊥

-- the text is a token of this kind, where those bytes follow it
abbrev pub IsOfForm : TokenKind → List ℕ → List ℕ → Type 0
IsOfForm Name text after = IsRun is_small is_word text ⊎ (IsGraphicName text after ⊎ ((text ≡ 33 ∷ []) ⊎ (text ≡ 59 ∷ [])))
IsOfForm Quoted text after = IsItem 39 text after
IsOfForm Var text after = IsRun (λ b. is_capital b || (b == 95)) is_word text
IsOfForm (Int z) text after = (n : ℕ) × (z ≡ pos n) × SpellsInteger n text
IsOfForm Text text after = IsItem 34 text after
IsOfForm Paren text after = text ≡ 40 ∷ []
IsOfForm ParenEnd text after = text ≡ 41 ∷ []
IsOfForm OpenList text after = text ≡ 91 ∷ []
IsOfForm ListEnd text after = text ≡ 93 ∷ []
IsOfForm Curly text after = text ≡ 123 ∷ []
IsOfForm CurlyEnd text after = text ≡ 125 ∷ []
IsOfForm Comma text after = text ≡ 44 ∷ []
IsOfForm Bar text after = text ≡ 124 ∷ []
IsOfForm End text after = (text ≡ 46 ∷ []) × (ends_clause after ≡ true)

-- the longest text of a form at the front of the bytes
pub record IsLongest (bytes : List ℕ) (kind : TokenKind) (text after : List ℕ) : Type 0 where
  pub whole : bytes ≡ text ++ after
  pub of_form : IsOfForm kind text after
  pub longest : (other : TokenKind) (text' after' : List ℕ) → bytes ≡ text' ++ after' → IsOfForm other text' after' → length text' ≤ length text

-- no token form fits at the front of the bytes
abbrev pub FitsNone : List ℕ → Type 0
FitsNone bytes = (kind : TokenKind) (text after : List ℕ) → bytes ≡ text ++ after → IsOfForm kind text after → ⊥

-- a single or a double quote
abbrev pub IsQuote : ℕ → Type 0
IsQuote b = (b ≡ 39) ⊎ (b ≡ 34)

-- the end of a line or of the text
abbrev pub IsLineEnd : List ℕ → Type 0
IsLineEnd [] = Unit {0}
IsLineEnd (b ∷ bs) = b ≡ 10

-- a byte that is not a character between quotes of this kind: no quote, no backslash, no newline, and nothing is
-- spelled there
abbrev pub IsNoCharacter : ℕ → List ℕ → Type 0
IsNoCharacter quote [] = ⊥
IsNoCharacter quote (b ∷ bs) = (b ≢ quote) × (b ≢ 92) × (b ≢ 10) × SpellsNone quote (b ∷ bs)

-- an item is open up to here: its quote and a body
pub record IsOpen (bytes : List ℕ) (quote : ℕ) (body after : List ℕ) : Type 0 where
  pub is_quote : IsQuote quote
  pub characters : List ℕ
  pub is_body : IsBody quote characters body
  pub whole : bytes ≡ quote ∷ (body ++ after)

-- The faults of a token, with their places counted from the front of the bytes.
pub data IsFault (bytes : List ℕ) (fault : LexFault) : Type 0 where
  -- a byte begins no token, or a byte in an item or after `0'` is not a character
  no_token : 0 < length bytes → FitsNone bytes → begins_with 39 bytes ≡ false → begins_with 34 bytes ≡ false → fault ≡ fault_at BadByte 0 → IsFault bytes fault
  byte_in_item : (quote : ℕ) (body after : List ℕ) → IsOpen bytes quote body after → IsNoCharacter quote after → fault ≡ fault_at BadByte (1 + length body) → IsFault bytes fault
  byte_after_zero : (after : List ℕ) → bytes ≡ 48 ∷ 39 ∷ after → IsNoCharacter 39 after → fault ≡ fault_at BadByte 2 → IsFault bytes fault
  -- an item meets the end of the line or of the text before its end
  open_item : (quote : ℕ) (body after : List ℕ) → IsOpen bytes quote body after → IsLineEnd after → fault ≡ fault_at Unclosed 0 → IsFault bytes fault
  -- a backslash in an item or after `0'` begins no escape
  escape_in_item : (quote : ℕ) (body after : List ℕ) → IsOpen bytes quote body (92 ∷ after) → SpellsNone quote (92 ∷ after) → begins_with 10 after ≡ false → fault ≡ fault_at BadEscape 0 → IsFault bytes fault
  escape_after_zero : (after : List ℕ) → bytes ≡ 48 ∷ 39 ∷ 92 ∷ after → SpellsNone 39 (92 ∷ after) → fault ≡ fault_at BadEscape 0 → IsFault bytes fault
  -- decimal digits, of an integer that is not too wide, are followed by a dot and a digit
  fraction : (digits after : List ℕ) (d : ℕ) → AreDigits 10 digits → number_of 10 digits < 2 ^ 127 → is_digit_in d 10 ≡ true → bytes ≡ digits ++ 46 ∷ d ∷ after → fault ≡ fault_at Float 0 → IsFault bytes fault
  -- an integer is above 2^127 - 1
  wide : (n : ℕ) (text after : List ℕ) → SpellsInteger n text → 2 ^ 127 ≤ n → bytes ≡ text ++ after → fault ≡ fault_at WideNumber 0 → IsFault bytes fault
