-- Private.
-- A spelled name is read back.
--
-- To believe: `IsReadBack`, and in Spelling.antt `spelling`.
use Rattle.std.specs.Prelude.{◌≡◌, ℕ, ◌+◌, Bool, false, ◌||◌, ◌==◌, List, [], ◌∷◌, length, Some, Ok, ◌⊎◌}
use Rattle.prolog_tokens.specs.Bytes.{is_word}
use Rattle.prolog_tokens.specs.Cursor.{Cursor, next_of}
use Rattle.prolog_tokens.specs.Decoding.{characters_of}
use Rattle.prolog_tokens.specs.Spelling.{spelling}
use Rattle.prolog_tokens.specs.declared.token.TokenKind.{TokenKind}
use Rattle.prolog_tokens.specs.declared.token.TokenKind.TheVariants.{Name, Quoted, List as OpenList, ListEnd}
use Rattle.prolog_tokens.specs.declared.token.Token.{Token}

-- the first of the bytes would make a word or a quoted item in front of it longer
abbrev pub lengthens_name : List ℕ → Bool
lengthens_name [] = false
lengthens_name (b ∷ bs) = is_word b || (b == 39)

-- the token of a kind from one place to another
abbrev pub token_between : TokenKind → ℕ → ℕ → Token
token_between kind start end = record { kind = kind; start = start; end = end }

-- The next token is the whole spelling, it is a Name or a Quoted, and it stands for the name.
pub record IsReadBack (c : Cursor) (name : List ℕ) : Type 0 where
  pub kind : TokenKind
  pub is_name : (kind ≡ Name) ⊎ (kind ≡ Quoted)
  pub read : next_of c ≡ Ok (Some (token_between kind c.at (c.at + length (spelling name))))
  pub meaning : characters_of c.text (token_between kind c.at (c.at + length (spelling name))) ≡ name

-- The name `[]` is read back as its two tokens.
pub record IsListReadBack (c : Cursor) : Type 0 where
  pub begins : next_of c ≡ Ok (Some (token_between OpenList c.at (c.at + 1)))
  pub ends : next_of (record { text = c.text; at = c.at + 1 }) ≡ Ok (Some (token_between ListEnd (c.at + 1) (c.at + 2)))
