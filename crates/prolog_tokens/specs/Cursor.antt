-- To believe, for reading.
-- A text and a place in it, and the token from there on.
use Rattle.std.specs.Prelude.{ℕ, ◌+◌, nat_lt, List, length, drop, Option, Some, None, Result, Ok, Err, if◌then◌else◌}
use Rattle.prolog_tokens.specs.Places.{moved, further}
use Rattle.prolog_tokens.specs.Layout.{gap_len}
use Rattle.prolog_tokens.specs.Tokens.{token_at, Answer}
use Rattle.prolog_tokens.specs.declared.token.Token.{Token}
use Rattle.prolog_tokens.specs.declared.fault.LexFault.{LexFault}

-- a text, and the byte from which it is read
pub record Cursor : Type 0 where
  pub text : List ℕ
  pub at : ℕ

-- the place after layout and comments, or the first fault in a comment
abbrev pub start_of : Cursor → Result ℕ LexFault
start_of c = further c.at (gap_len 0 (drop c.at c.text))

-- a token or a fault, with its place
abbrev pub placed : ℕ → Answer → Result (Option Token) LexFault
placed start (Ok t) = Ok (Some (record { kind = t.0; start = start; end = start + t.1 }))
placed start (Err fault) = Err (moved start fault)

-- the token from a place on, or None at the end
abbrev pub token_from : List ℕ → Result ℕ LexFault → Result (Option Token) LexFault
token_from text (Ok start) = if nat_lt start (length text) then placed start (token_at (drop start text)) else Ok None
token_from text (Err fault) = Err fault

-- the next token, or None at the end, or the fault
abbrev pub next_of : Cursor → Result (Option Token) LexFault
next_of c = token_from c.text (start_of c)

-- where the text goes on: after the token; at the end; and after a fault where it stood
abbrev pub place_after : Cursor → Result (Option Token) LexFault → ℕ
place_after c (Ok None) = length c.text
place_after c (Ok (Some t)) = t.end
place_after c (Err e) = c.at
