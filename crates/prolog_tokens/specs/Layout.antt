-- To believe, for reading.
-- What stands between tokens, computed: layout and comments.
--
-- By the forms it is `IsGap` of Gaps.antt, as the law `longest_match` says.
use Rattle.std.specs.Prelude.{ℕ, zero, suc, ◌+◌, ◌==◌, ◌&&◌, not, nat_lt, List, [], ◌∷◌, length, take, drop, Result, Ok, Err, if◌then◌else◌}
use Rattle.std.specs.List.{prefix_len}
use Rattle.std.specs.Str.Lossy.{utf8_valid_len}
use Rattle.prolog_tokens.specs.Bytes.{is_layout, begins_with, begins_comment}
use Rattle.prolog_tokens.specs.Places.{fault_at, further}
use Rattle.prolog_tokens.specs.declared.fault.LexKind.TheVariants.{BadByte, Unclosed}
use Rattle.prolog_tokens.specs.declared.fault.LexFault.{LexFault}

-- the answer for a comment with this body after the given number of bytes: where the body is not UTF-8, the fault at
-- its first byte that is not
abbrev pub with_body : ℕ → List ℕ → Result ℕ LexFault → Result ℕ LexFault
with_body before body answer = if utf8_valid_len body == length body then answer else Err (fault_at BadByte (before + utf8_valid_len body))

-- how many bytes stand before the newline, or before the end of the text
abbrev pub line_len : List ℕ → ℕ
line_len bs = prefix_len (λ b. not (b == 10)) bs

-- a comment after its percent sign
unfoldable pub line_comment : List ℕ → Result ℕ LexFault
line_comment bs = with_body 1 (take (line_len bs) bs) (Ok (1 + line_len bs))

-- how many bytes stand before the first `*/`, or before the end of the text
abbrev pub body_len : List ℕ → ℕ
body_len [] = 0
body_len (b ∷ bs) = if (b == 42) && begins_with 47 bs then 0 else 1 + body_len bs

-- a comment after its `/*`
unfoldable pub block_comment : List ℕ → Result ℕ LexFault
block_comment bs = with_body 2 (take (body_len bs) bs) (if nat_lt (body_len bs) (length bs) then Ok (4 + body_len bs) else Err (fault_at Unclosed 0))

-- how long the byte of layout or the comment at the front is: 0 where there is none; or its fault
abbrev pub space_at : List ℕ → Result ℕ LexFault
space_at [] = Ok 0
space_at (b ∷ bs) =
    if is_layout b then Ok 1
    else if b == 37 then line_comment bs
    else if begins_comment (b ∷ bs) then block_comment (drop 1 bs)
    else Ok 0

-- from a byte of layout or a comment on: what follows goes on after its other bytes
abbrev pub gap_past : Result ℕ LexFault → (ℕ → Result ℕ LexFault) → Result ℕ LexFault
gap_past (Ok zero) rest = Ok 0
gap_past (Ok (suc n)) rest = further 1 (rest n)
gap_past (Err fault) rest = Err fault

-- how many bytes of layout and comments stand after those that belong to an earlier one, or the first fault
abbrev pub gap_len : ℕ → List ℕ → Result ℕ LexFault
gap_len n [] = Ok 0
gap_len (suc n) (b ∷ bs) = further 1 (gap_len n bs)
gap_len zero (b ∷ bs) = gap_past (space_at (b ∷ bs)) (λ n. gap_len n bs)
