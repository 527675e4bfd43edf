-- To believe, for reading.
-- All tokens of a text, and the fault that ends them, if one does.
use Rattle.std.specs.Prelude.{◌≡◌, List, [], ◌∷◌, Option, Some, None, Ok, Err}
use Rattle.prolog_tokens.specs.Cursor.{Cursor, next_of}
use Rattle.prolog_tokens.specs.declared.token.Token.{Token}
use Rattle.prolog_tokens.specs.declared.fault.LexFault.{LexFault}

-- From the cursor on there are these tokens.
pub data Lexes : Cursor → List Token → Option LexFault → Type 0 where
  ends : {c : Cursor} → next_of c ≡ Ok None → Lexes c [] None
  fails : {c : Cursor} {e : LexFault} → next_of c ≡ Err e → Lexes c [] (Some e)
  goes_on : {c : Cursor} {t : Token} {ts : List Token} {e : Option LexFault} → next_of c ≡ Ok (Some t) → Lexes (record { text = c.text; at = t.end }) ts e → Lexes c (t ∷ ts) e
