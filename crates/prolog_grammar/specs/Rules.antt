-- To believe, for reading.
-- What the grammar is given: the operators, and what is built of what is read.
--
-- The grammar is the same for every table of operators, and never looks at what is built. So one grammar serves for
-- trees with all their tokens (`syntax_rules`) and for the terms of the code (`placed_rules`).
--
-- To believe: all of this file.
-- Source: ISO/IEC 13211-1:1995, 6.3.4 (operator notation).
use Rattle.std.specs.Prelude.{ℕ, nat_le, ◌&&◌, not, List, [], ◌∷◌, Option, Some, None, is_some, is_none, Bool, true, false, if◌then◌else◌}
use Rattle.prolog_grammar.specs.Token.{Value, Token, Name, ParenEnd, BracketEnd, BraceEnd, Comma, Bar, End, touches}

-- an infix operator: its priority, and the greatest priorities that its sides may have
pub record Infix : Type 0 where
  pub priority : ℕ
  pub left : ℕ
  pub right : ℕ

-- a prefix operator: its priority, and the greatest priority that its operand may have
pub record Prefix : Type 0 where
  pub priority : ℕ
  pub right : ℕ

-- a name that arguments may follow, with its place: a token, [ and ], or { and }
pub data Head : Type 0 where
  plain : ℕ → ℕ → Head
  brackets : ℕ → Head
  braces : ℕ → Head

-- the operators, and what is built: where a builder takes numbers, the place is the first and the name or integer the
-- second
pub record Rules (T : Type 0) : Type 0 where
  -- the infix and the prefix meaning of a name
  pub infixes : ℕ → Option Infix
  pub prefixes : ℕ → Option Prefix
  -- the name that the comma token has as an operator; a quoted comma is a name like others, which no table of the
  -- reader has
  pub comma : ℕ
  -- a variable, an integer or a text
  pub leaf : ℕ → Value → T
  -- the number below 0 with these digits
  pub negative : ℕ → ℕ → T
  -- a name without arguments, and with arguments
  pub atom : Head → T
  pub call : Head → List T → T
  -- a prefix operator with its operand
  pub prefixed : ℕ → ℕ → T → T
  -- an infix operator with its sides
  pub infixed : ℕ → T → T → T
  -- a list with its elements, and its tail if it has one
  pub listed : ℕ → List T → Option T → T
  -- a term in braces, and in parentheses
  pub curled : ℕ → T → T
  pub grouped : ℕ → T → T
  -- how deep a term is
  pub depth : T → ℕ

-- the operator with its name, where its priority is at most the bound and its left side allows the priority so far
abbrev pub if_fits : ℕ → ℕ → ℕ → Option Infix → Option (ℕ × Infix)
if_fits bound so_far n None = None
if_fits bound so_far n (Some op) = if nat_le op.priority bound && nat_le so_far op.left then Some (n, op) else None

-- the token as an infix operator that is taken at the bound after a term of the priority so far; the comma is 1000 xfy
abbrev pub taken : {T : Type 0} → Rules T → ℕ → ℕ → Token → Option (ℕ × Infix)
taken rules bound so_far (Name at n) = if_fits bound so_far n (rules.infixes n)
taken rules bound so_far Comma = if_fits bound so_far rules.comma (Some (record { priority = 1000; left = 999; right = 1000 }))
taken rules bound so_far _ = None

-- the same of the first of these tokens
abbrev pub taken_first : {T : Type 0} → Rules T → ℕ → ℕ → List Token → Option (ℕ × Infix)
taken_first rules bound so_far [] = None
taken_first rules bound so_far (token ∷ rest) = taken rules bound so_far token

-- the name is an infix operator that is not a prefix operator
abbrev pub is_infix_alone : {T : Type 0} → Rules T → ℕ → Bool
is_infix_alone rules n = is_some (rules.infixes n) && is_none (rules.prefixes n)

-- a prefix operator before these tokens is an atom: they end what it stands in, or an infix operator follows it that is
-- not a prefix operator and no name with a parenthesis directly after it
abbrev pub ends_atom : {T : Type 0} → Rules T → List Token → Bool
ends_atom rules [] = true
ends_atom rules (Name at n ∷ rest) = is_infix_alone rules n && not (touches rest)
ends_atom rules (ParenEnd ∷ rest) = true
ends_atom rules (BracketEnd ∷ rest) = true
ends_atom rules (BraceEnd ∷ rest) = true
ends_atom rules (Comma ∷ rest) = true
ends_atom rules (Bar ∷ rest) = true
ends_atom rules (End ∷ rest) = true
ends_atom rules _ = false
