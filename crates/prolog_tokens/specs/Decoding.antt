-- To believe, for reading.
-- The characters that a token of a text stands for.
use Rattle.std.specs.Prelude.{◌≡◌, ℕ, ◌-◌, ◌++◌, List, [], take, drop, Some, Ok}
use Rattle.std.specs.Str.{encode_utf8_all}
use Rattle.prolog_tokens.specs.Items.{item_characters}
use Rattle.prolog_tokens.specs.Cursor.{next_of}
use Rattle.prolog_tokens.specs.declared.token.TokenKind.{TokenKind}
use Rattle.prolog_tokens.specs.declared.token.TokenKind.TheVariants.{Name, Quoted, Text}
use Rattle.prolog_tokens.specs.declared.token.Token.{Token}

-- the token is the next one at some place of the text
abbrev pub IsTokenOf : List ℕ → Token → Type 0
IsTokenOf text t = (at : ℕ) × (next_of (record { text = text; at = at }) ≡ Ok (Some t))

-- the bytes of a token
abbrev pub bytes_of : List ℕ → Token → List ℕ
bytes_of text t = take (t.end - t.start) (drop t.start text)

-- what a token with these bytes stands for, in UTF-8: a name for itself, an item for its characters, and another token
-- for none
abbrev pub meaning_of : TokenKind → List ℕ → List ℕ
meaning_of Name bytes = bytes
meaning_of Quoted bytes = encode_utf8_all (item_characters 39 0 (drop 1 bytes))
meaning_of Text bytes = encode_utf8_all (item_characters 34 0 (drop 1 bytes))
meaning_of kind bytes = []

-- the characters of a token, in UTF-8
abbrev pub characters_of : List ℕ → Token → List ℕ
characters_of text t = meaning_of t.kind (bytes_of text t)

-- the new bytes are the old ones and a prefix of all that were to be appended
abbrev pub AppendsPrefix : List ℕ → List ℕ → List ℕ → Type 0
AppendsPrefix old all new = (n : ℕ) × (new ≡ old ++ take n all)
