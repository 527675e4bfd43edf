-- To believe, for reading.
-- The character whose UTF-8 stands at the front of some bytes.
use Rattle.std.specs.Prelude.{ℕ, ◌+◌, Bool, ◌||◌, ◌&&◌, ◌==◌, nat_le, List, [], ◌∷◌, take, Option, None, slice_get, if◌then◌else◌}
use Rattle.std.specs.Str.{is_utf8, chars, continuation_len}

-- the character of the first byte and those that it asks for, where they are UTF-8
unfoldable pub character_at : List ℕ → Option ℕ
character_at [] = None
character_at (b ∷ bs) = let front = take (1 + continuation_len b) (b ∷ bs) in if is_utf8 front then slice_get (chars front) 0 else None

-- a character that may stand in quotes: tab, printing ASCII, and all past ASCII
abbrev pub is_quotable : ℕ → Bool
is_quotable c = (c == 9) || (nat_le 32 c && nat_le c 126) || nat_le 128 c
