-- To believe, for reading.
-- The tokens of a clause, as the grammar sees them.
--
-- The first number of a token is its place: the byte at which it begins, counted from 0. A name is a number, and so is
-- a variable, by its first occurrence in the clause. Where it matters that a token touches the one before it, the token
-- itself says so. So no token says anything of what follows it.
--
-- To believe: all of this file.
-- Source: ISO/IEC 13211-1:1995, 6.4 (tokens).
use Rattle.std.specs.Prelude.{ℕ, List, ◌∷◌, Bool, true, false}

-- what a token stands for that is an operand by itself: a variable, an integer from 0 on, or a quoted text as its
-- character codes
pub data Value : Type 0 where
  variable : ℕ → Value
  integer : ℕ → Value
  text : List ℕ → Value

-- a token of a clause
pub data Token : Type 0 where
  -- a variable, an integer or a text
  Leaf : ℕ → Value → Token
  -- an integer directly after the unquoted name -
  Joined : ℕ → ℕ → Token
  -- a name, quoted or not
  Name : ℕ → ℕ → Token
  -- an opening parenthesis with layout, a comment or nothing before it
  Paren : ℕ → Token
  -- an opening parenthesis directly after the token before
  Touching : ℕ → Token
  ParenEnd : Token
  Bracket : ℕ → Token
  BracketEnd : Token
  Brace : ℕ → Token
  BraceEnd : Token
  Comma : Token
  Bar : Token
  -- the dot that ends a clause
  End : Token

-- the first of these tokens is a parenthesis that touches the token before it
abbrev pub touches : List Token → Bool
touches (Touching at ∷ rest) = true
touches _ = false

-- the first of these tokens belongs to the name before it, as a parenthesis with its arguments or as its number
abbrev pub clings : List Token → Bool
clings (Touching at ∷ rest) = true
clings (Joined at i ∷ rest) = true
clings _ = false
