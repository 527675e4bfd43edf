-- Private.
-- Tokens within a text. Nothing here has to be believed.
use Rattle.std.specs.Prelude.{◌≤◌, ℕ, List, length}
use Rattle.prolog_tokens.specs.declared.token.Token.{Token}

-- the token ends within the text
pub record IsWithin (text : List ℕ) (t : Token) : Type 0 where
  pub ordered : t.start ≤ t.end
  pub ended : t.end ≤ length text
