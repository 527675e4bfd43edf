-- To believe, for reading.
-- The tokens of a text as the grammar sees them: names and variables by number, with what touches what.
--
-- A name's number is that of its text in a list of names. The variables of a clause are numbered from 0 in the order of
-- their first occurrence, and each `_` is another one. An integer directly after the unquoted name `-` is `Joined` to
-- it.
--
-- To believe: all of this file.
-- Source: ISO/IEC 13211-1:1995, 6.4 (tokens) and 6.3.4.1 (negative numerals), in this project's profile.
use Rattle.std.specs.Prelude.{ℕ, ◌+◌, nat_eq, nat_lt, Bool, false, ◌&&◌, ◌==◌, List, [], ◌∷◌, ◌++◌, length, drop, Option, Some, None, nat_abs, slice_index_or, codes, if◌then◌else◌}
use Rattle.std.specs.Cmp.Lexicographic.{pointwise}
use Rattle.cti_terms.specs.Numbers.{number_of}
use Rattle.prolog_tokens.specs.Items.{item_characters}
use Rattle.prolog_tokens.specs.Decoding.{bytes_of, meaning_of}
use Rattle.prolog_tokens.specs.declared.token.TokenKind.{TokenKind}
use Rattle.prolog_tokens.specs.declared.token.TokenKind.TheVariants as kind
use Rattle.prolog_tokens.specs.declared.token.Token.{Token as TextToken}
use Rattle.prolog_grammar.specs.Token.{variable, integer, text as text_value, Token, Leaf, Joined, Name, Paren, Touching, ParenEnd, Bracket, BracketEnd, Brace, BraceEnd, Comma, Bar, End}

-- the variables of a clause so far: the names of those that have one, the number of each of these, and how many
-- variables there are
pub record Seen : Type 0 where
  pub named : List (List ℕ)
  pub numbers : List ℕ
  pub count : ℕ

abbrev pub none_seen : Seen
none_seen = record { named = []; numbers = []; count = 0 }

-- the name `_`
abbrev pub is_anonymous : List ℕ → Bool
is_anonymous name = pointwise nat_eq name (codes "_")

-- the variable has its number already
abbrev pub is_seen : Seen → List ℕ → Bool
is_seen seen name = nat_lt (number_of seen.named name) (length seen.numbers)

-- the number of a variable after these: its own where it was there, or the next
abbrev pub variable_number : Seen → List ℕ → ℕ
variable_number seen name = if is_anonymous name then seen.count else slice_index_or seen.numbers (number_of seen.named name) seen.count

-- these variables and one more
abbrev pub with_variable : Seen → List ℕ → Seen
with_variable seen name =
    if is_anonymous name then record { named = seen.named; numbers = seen.numbers; count = seen.count + 1 }
    else if is_seen seen name then seen
    else record { named = seen.named ++ name ∷ []; numbers = seen.numbers ++ seen.count ∷ []; count = seen.count + 1 }

-- the token stands directly after the one before it
abbrev pub touches_before : Option TextToken → TextToken → Bool
touches_before None t = false
touches_before (Some b) t = b.end == t.start

-- the unquoted name -
abbrev pub is_minus : TokenKind → List ℕ → Bool
is_minus kind.Name bytes = pointwise nat_eq bytes (codes "-")
is_minus _ bytes = false

-- an integer here belongs to a - directly before it
abbrev pub joins_before : List ℕ → Option TextToken → TextToken → Bool
joins_before text None t = false
joins_before text (Some b) t = is_minus b.kind (bytes_of text b) && (b.end == t.start)

-- a token of this kind with these bytes and this place
abbrev pub kind_token : List (List ℕ) → Seen → Bool → Bool → TokenKind → List ℕ → ℕ → Token
kind_token names seen touching joined kind.Name bytes at = Name at (number_of names (meaning_of kind.Name bytes))
kind_token names seen touching joined kind.Quoted bytes at = Name at (number_of names (meaning_of kind.Quoted bytes))
kind_token names seen touching joined kind.Var bytes at = Leaf at (variable (variable_number seen bytes))
kind_token names seen touching joined (kind.Int i) bytes at = if joined then Joined at (nat_abs i) else Leaf at (integer (nat_abs i))
kind_token names seen touching joined kind.Text bytes at = Leaf at (text_value (item_characters 34 0 (drop 1 bytes)))
kind_token names seen touching joined kind.Paren bytes at = if touching then Touching at else Paren at
kind_token names seen touching joined kind.ParenEnd bytes at = ParenEnd
kind_token names seen touching joined kind.List bytes at = Bracket at
kind_token names seen touching joined kind.ListEnd bytes at = BracketEnd
kind_token names seen touching joined kind.Curly bytes at = Brace at
kind_token names seen touching joined kind.CurlyEnd bytes at = BraceEnd
kind_token names seen touching joined kind.Comma bytes at = Comma
kind_token names seen touching joined kind.Bar bytes at = Bar
kind_token names seen touching joined kind.End bytes at = End

-- the token after these variables and that token
abbrev pub token_of : List (List ℕ) → List ℕ → Seen → Option TextToken → TextToken → Token
token_of names text seen before t = kind_token names seen (touches_before before t) (joins_before text before t) t.kind (bytes_of text t) t.start

abbrev pub kind_seen : Seen → TokenKind → List ℕ → Seen
kind_seen seen kind.Var bytes = with_variable seen bytes
kind_seen seen _ bytes = seen

-- the variables after a token
abbrev pub seen_after : List ℕ → Seen → TextToken → Seen
seen_after text seen t = kind_seen seen t.kind (bytes_of text t)

-- the tokens, each after those before it
abbrev pub tokens_of : List (List ℕ) → List ℕ → Seen → Option TextToken → List TextToken → List Token
tokens_of names text seen before [] = []
tokens_of names text seen before (t ∷ ts) = token_of names text seen before t ∷ tokens_of names text (seen_after text seen t) (Some t) ts

-- the variables after all these tokens
abbrev pub seen_after_all : List ℕ → Seen → List TextToken → Seen
seen_after_all text seen [] = seen
seen_after_all text seen (t ∷ ts) = seen_after_all text (seen_after text seen t) ts
