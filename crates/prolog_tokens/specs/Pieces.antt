-- To believe, for reading.
-- What stands at one place of a quoted item, computed. By the forms a character is `SpellsCharacter` of Forms.antt.
--
-- Source: ISO/IEC 13211-1:1995, 6.4.2.1, in this project's profile.
use Rattle.std.specs.Prelude.{ℕ, ◌+◌, ◌≤◌, ◌<◌, ◌||◌, ◌&&◌, ◌==◌, nat_le, nat_lt, List, [], ◌∷◌, take, drop, Option, Some, None, if◌then◌else◌}
use Rattle.std.specs.Char.{len_utf8}
use Rattle.std.specs.Str.{all_scalars}
use Rattle.prolog_tokens.specs.Bytes.{begins_with}
use Rattle.prolog_tokens.specs.Numbers.{digits_len, number_of}
use Rattle.prolog_tokens.specs.Characters.{character_at, is_quotable}
use Rattle.prolog_tokens.specs.declared.piece.Piece.{Piece}
use Rattle.prolog_tokens.specs.declared.piece.Piece.TheVariants.{Character, Dropped, Closing, Fault}
use Rattle.prolog_tokens.specs.declared.fault.LexKind.TheVariants.{BadByte, Unclosed, BadEscape}

-- the character of an escape of one letter or mark: \a \b \f \n \r \t \v \\ \' \" \`
unfoldable pub escape_of : ℕ → Option ℕ
escape_of b =
    if b == 97 then Some 7 else if b == 98 then Some 8 else if b == 102 then Some 12 else if b == 110 then Some 10
    else if b == 114 then Some 13 else if b == 116 then Some 9 else if b == 118 then Some 11
    else if (b == 92) || (b == 39) || (b == 34) || (b == 96) then Some b else None

-- an escape by number, whose digits follow the given number of bytes: the digits, and a backslash that closes them
unfoldable pub number_escape : ℕ → ℕ → List ℕ → Piece
number_escape base before bs =
    let len = digits_len base bs in
    let number = number_of base (take len bs) in
    if nat_lt 0 len && begins_with 92 (drop len bs) && all_scalars (number ∷ []) then Character number (before + len + 1) else Fault BadEscape

-- an escape of one byte after its backslash
abbrev pub short_escape : Option ℕ → Piece
short_escape (Some c) = Character c 2
short_escape None = Fault BadEscape

-- the escape whose backslash stands in front of these bytes
unfoldable pub escape_at : List ℕ → Piece
escape_at [] = Fault BadEscape
escape_at (b ∷ bs) =
    if b == 10 then Dropped
    else if b == 120 then number_escape 16 2 bs
    else if nat_le 48 b && nat_le b 55 then number_escape 8 1 (b ∷ bs)
    else short_escape (escape_of b)

-- a character that stands for itself
abbrev pub plain_character : Option ℕ → Piece
plain_character (Some c) = if is_quotable c then Character c (len_utf8 c) else Fault BadByte
plain_character None = Fault BadByte

-- a quote: doubled it is a character, else it closes the item
abbrev pub closing_at : ℕ → List ℕ → Piece
closing_at quote bs = if begins_with quote bs then Character quote 2 else Closing

-- the piece at the front of these bytes, in an item with this quote
unfoldable pub piece_at : ℕ → List ℕ → Piece
piece_at quote [] = Fault Unclosed
piece_at quote (b ∷ bs) =
    if b == quote then closing_at quote bs
    else if b == 10 then Fault Unclosed
    else if b == 92 then escape_at bs
    else plain_character (character_at (b ∷ bs))

-- the piece has at least one byte, and at most the given number
abbrev pub HasAtMost : ℕ → Piece → Type 0
HasAtMost most (Character c n) = (0 < n) × (n ≤ most)
HasAtMost most Dropped = 2 ≤ most
HasAtMost most Closing = 1 ≤ most
HasAtMost most (Fault kind) = Unit {0}
