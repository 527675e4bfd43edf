-- To believe, for the modes.
-- The spelling of names.
use Rattle.std.specs.Prelude.{ℕ, ◌/◌, ◌%◌, Bool, false, ◌||◌, ◌&&◌, ◌==◌, nat_lt, List, [], ◌∷◌, ◌++◌, length, if◌then◌else◌}
use Rattle.std.specs.List.{flat_map, prefix_len}
use Rattle.std.specs.Char.{digit_char}
use Rattle.prolog_tokens.specs.Bytes.{is_small, is_word}

-- a small letter and letters, digits and underscores
abbrev pub is_plain_word : List ℕ → Bool
is_plain_word [] = false
is_plain_word (b ∷ bs) = is_small b && (prefix_len is_word bs == length bs)

-- the name `[]`
abbrev pub is_empty_list : List ℕ → Bool
is_empty_list [] = false
is_empty_list (b ∷ []) = false
is_empty_list (b ∷ c ∷ []) = (b == 91) && (c == 93)
is_empty_list (b ∷ c ∷ d ∷ bs) = false

-- the hexadecimal digits of a byte, without leading zeros
abbrev pub hexadecimal : ℕ → List ℕ
hexadecimal b = if nat_lt b 16 then digit_char b ∷ [] else digit_char (b / 16) ∷ digit_char (b % 16) ∷ []

-- a byte between single quotes: \' and \\ and \n, \xH\ for other control bytes, and any other byte for itself
unfoldable pub spelled_byte : ℕ → List ℕ
spelled_byte b =
    if (b == 39) || (b == 92) then 92 ∷ b ∷ []
    else if b == 10 then 92 ∷ 110 ∷ []
    else if nat_lt b 32 || (b == 127) then 92 ∷ 120 ∷ hexadecimal b ++ 92 ∷ []
    else b ∷ []

-- a name: plain where it can be, else in single quotes
unfoldable pub spelling : List ℕ → List ℕ
spelling name = if is_plain_word name || is_empty_list name then name else 39 ∷ flat_map spelled_byte name ++ 39 ∷ []
