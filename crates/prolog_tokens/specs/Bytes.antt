-- To believe, for the modes.
-- Classes of bytes.
--
-- Source: ISO/IEC 13211-1:1995, 6.5, in this project's profile: outside quotes and comments a text is ASCII.
use Rattle.std.specs.Prelude.{ℕ, Bool, true, false, ◌||◌, ◌&&◌, nat_le, ◌==◌, List, [], ◌∷◌}

-- a small letter
abbrev pub is_small : ℕ → Bool
is_small b = nat_le 97 b && nat_le b 122

-- a capital letter
abbrev pub is_capital : ℕ → Bool
is_capital b = nat_le 65 b && nat_le b 90

-- a decimal digit
abbrev pub is_digit : ℕ → Bool
is_digit b = nat_le 48 b && nat_le b 57

-- a letter, a digit or the underscore
abbrev pub is_word : ℕ → Bool
is_word b = is_small b || is_capital b || is_digit b || (b == 95)

-- a graphic character: # $ & * + - . / : < = > ? @ \ ^ ~
unfoldable pub is_graphic : ℕ → Bool
is_graphic b =
    (nat_le 35 b && nat_le b 36) || (b == 38) || (nat_le 42 b && nat_le b 43) || (nat_le 45 b && nat_le b 47)
    || (b == 58) || (nat_le 60 b && nat_le b 64) || (b == 92) || (b == 94) || (b == 126)

-- a space, or one of the bytes from tab to carriage return
abbrev pub is_layout : ℕ → Bool
is_layout b = (nat_le 9 b && nat_le b 13) || (b == 32)

-- the first of the bytes is this one
abbrev pub begins_with : ℕ → List ℕ → Bool
begins_with c [] = false
begins_with c (b ∷ bs) = b == c

-- a comment begins: `/*`
abbrev pub begins_comment : List ℕ → Bool
begins_comment [] = false
begins_comment (b ∷ bs) = (b == 47) && begins_with 42 bs

-- a dot ends the clause where layout, a percent sign or nothing follows
abbrev pub ends_clause : List ℕ → Bool
ends_clause [] = true
ends_clause (b ∷ bs) = is_layout b || (b == 37)
