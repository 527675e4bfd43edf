-- To believe, for reading.
-- The token at the front of some bytes, computed.
--
-- The code is proved against these functions. That they give the longest text of a form, and the faults, is the law
-- `longest_match`, over the words of Forms.antt, Gaps.antt and Next.antt, which a reader may believe in their place.
use Rattle.std.specs.Prelude.{ℕ, ◌+◌, ◌^◌, ◌||◌, ◌&&◌, ◌==◌, Bool, false, nat_lt, List, [], ◌∷◌, take, drop, pos, Result, Ok, Err, if◌then◌else◌}
use Rattle.std.specs.List.{prefix_len}
use Rattle.prolog_tokens.specs.Bytes.{is_small, is_capital, is_digit, is_word, is_graphic, begins_with, ends_clause}
use Rattle.prolog_tokens.specs.Places.{fault_at}
use Rattle.prolog_tokens.specs.Numbers.{digits_len, number_of}
use Rattle.prolog_tokens.specs.Pieces.{piece_at}
use Rattle.prolog_tokens.specs.Items.{item_len}
use Rattle.prolog_tokens.specs.declared.piece.Piece.{Piece}
use Rattle.prolog_tokens.specs.declared.piece.Piece.TheVariants.{Character, Dropped, Closing, Fault}
use Rattle.prolog_tokens.specs.declared.token.TokenKind.{TokenKind}
use Rattle.prolog_tokens.specs.declared.token.TokenKind.TheVariants.{Name, Quoted, Var, Int, Text, Paren, ParenEnd, List as OpenList, ListEnd, Curly, CurlyEnd, Comma, Bar, End}
use Rattle.prolog_tokens.specs.declared.fault.LexKind.{LexKind}
use Rattle.prolog_tokens.specs.declared.fault.LexKind.TheVariants.{BadByte, Unclosed, BadEscape, Float, WideNumber}
use Rattle.prolog_tokens.specs.declared.fault.LexFault.{LexFault}

-- the kind of a token and how many bytes it has, or its fault
abbrev pub Answer : Type 0
Answer = Result (TokenKind × ℕ) LexFault

-- the integer of the given number of bytes, if 127 bits hold it
abbrev pub integer : ℕ → ℕ → Answer
integer number len = if nat_lt number (2 ^ 127) then Ok (Int (pos number), len) else Err (fault_at WideNumber 0)

-- the integer 0 alone
abbrev pub zero_alone : Answer
zero_alone = Ok (Int (pos 0), 1)

-- a dot and a digit
abbrev pub is_fraction : List ℕ → Bool
is_fraction [] = false
is_fraction (b ∷ bs) = (b == 46) && nat_lt 0 (digits_len 10 bs)

-- an integer of decimal digits, whose fault counts before that of a fraction after it
unfoldable pub decimal_at : List ℕ → Answer
decimal_at bs =
    let len = digits_len 10 bs in
    let number = number_of 10 (take len bs) in
    if nat_lt number (2 ^ 127) && is_fraction (drop len bs) then Err (fault_at Float 0) else integer number len

-- an integer of a base, after `0` and the letter of the base
unfoldable pub based_at : ℕ → List ℕ → Answer
based_at base bs = let len = digits_len base bs in if len == 0 then zero_alone else integer (number_of base (take len bs)) (2 + len)

-- the code of a character, after `0'`
abbrev pub code_of : Piece → Answer
code_of (Character c n) = Ok (Int (pos c), 2 + n)
code_of Dropped = Err (fault_at BadEscape 0)
code_of Closing = zero_alone
code_of (Fault Unclosed) = zero_alone
code_of (Fault BadByte) = Err (fault_at BadByte 2)
code_of (Fault kind) = Err (fault_at kind 0)

-- an integer: the bytes begin with a digit
unfoldable pub integer_at : List ℕ → Answer
integer_at bs =
    let rest = drop 1 bs in
    if begins_with 48 bs && begins_with 120 rest then based_at 16 (drop 1 rest)
    else if begins_with 48 bs && begins_with 111 rest then based_at 8 (drop 1 rest)
    else if begins_with 48 bs && begins_with 98 rest then based_at 2 (drop 1 rest)
    else if begins_with 48 bs && begins_with 39 rest then code_of (piece_at 39 (drop 1 rest))
    else decimal_at bs

-- the fault of an item whose cause stands at a distance from its quote: a bad byte is named itself, else the quote
abbrev pub item_fault : LexKind → ℕ → LexFault
item_fault BadByte at = fault_at BadByte (1 + at)
item_fault kind at = fault_at kind 0

-- an item of this kind
abbrev pub item_of : TokenKind → Result ℕ LexFault → Answer
item_of kind (Ok len) = Ok (kind, 1 + len)
item_of kind (Err fault) = Err (item_fault fault.kind fault.at)

-- a mark that is a token of its own
unfoldable pub mark_at : ℕ → Answer
mark_at b =
    if b == 40 then Ok (Paren, 1) else if b == 41 then Ok (ParenEnd, 1)
    else if b == 91 then Ok (OpenList, 1) else if b == 93 then Ok (ListEnd, 1)
    else if b == 123 then Ok (Curly, 1) else if b == 125 then Ok (CurlyEnd, 1)
    else if b == 44 then Ok (Comma, 1) else if b == 124 then Ok (Bar, 1)
    else if (b == 33) || (b == 59) then Ok (Name, 1)
    else Err (fault_at BadByte 0)

-- the kind of the token, and how many bytes it has; or its fault
abbrev pub token_at : List ℕ → Answer
token_at [] = Err (fault_at BadByte 0)
token_at (b ∷ bs) =
    if is_small b then Ok (Name, 1 + prefix_len is_word bs)
    else if is_capital b || (b == 95) then Ok (Var, 1 + prefix_len is_word bs)
    else if is_digit b then integer_at (b ∷ bs)
    else if b == 39 then item_of Quoted (item_len 39 0 bs)
    else if b == 34 then item_of Text (item_len 34 0 bs)
    else if (b == 46) && ends_clause bs then Ok (End, 1)
    else if is_graphic b then Ok (Name, 1 + prefix_len is_graphic bs)
    else mark_at b
