-- To believe, for reading.
-- The names that a text gives: each text that names something, in the order in which they first occur.
--
-- First come the texts that the reader itself names, then those of the names in the text, up to its end or its first
-- lexical fault.
--
-- To believe: all of this file, and below it `with_text` of cti_terms, `meaning_of` and `Lexes` of prolog_tokens.
use Rattle.std.specs.Prelude.{◌≡◌, ℕ, List, [], ◌∷◌, ◌++◌, Option, codes}
use Rattle.prolog_tokens.specs.Decoding.{bytes_of, meaning_of}
use Rattle.prolog_tokens.specs.Stream.{Lexes}
use Rattle.prolog_tokens.specs.declared.token.TokenKind.{TokenKind}
use Rattle.prolog_tokens.specs.declared.token.TokenKind.TheVariants as kind
use Rattle.prolog_tokens.specs.declared.token.Token.{Token as TextToken}
use Rattle.prolog_tokens.specs.declared.fault.LexFault.{LexFault}
use Rattle.prolog_reader.specs.declared.fault.ReadFault.{ReadFault}
use Rattle.prolog_reader.specs.declared.fault.ReadFault.TheVariants.{Fault as Refused, Memory}
use Rattle.prolog_operators.specs.Names.{Extends}
unfoldable pub use Rattle.prolog_operators.specs.Texts.{with_names}
pub use Rattle.prolog_operators.specs.Texts.{clause_texts, comparison_texts, arithmetic_texts, operator_texts}

-- the texts that the syntax makes terms of
abbrev pub syntax_texts : List (List ℕ)
syntax_texts = codes "," ∷ codes "[]" ∷ codes "{}" ∷ codes "." ∷ []

-- and with them those of an `op` clause
abbrev pub word_texts : List (List ℕ)
word_texts = syntax_texts ++ codes ":-" ∷ codes "op" ∷ codes "xfx" ∷ codes "xfy" ∷ codes "yfx" ∷ codes "fx" ∷ codes "fy" ∷ codes "|" ∷ []

-- what a token of this kind with these bytes names
abbrev pub kind_texts : TokenKind → List ℕ → List (List ℕ)
kind_texts kind.Name bytes = meaning_of kind.Name bytes ∷ []
kind_texts kind.Quoted bytes = meaning_of kind.Quoted bytes ∷ []
kind_texts _ bytes = []

abbrev pub token_texts : List ℕ → TextToken → List (List ℕ)
token_texts text t = kind_texts t.kind (bytes_of text t)

-- what these tokens name
abbrev pub name_texts : List ℕ → List TextToken → List (List ℕ)
name_texts text [] = []
name_texts text (t ∷ ts) = token_texts text t ++ name_texts text ts

-- the names of a text, after those that were there: these own ones of the reader, and those of the text's tokens
pub record AreNamesOf (own : List (List ℕ)) (earlier : List (List ℕ)) (text : List ℕ) (names : List (List ℕ)) : Type 0 where
  pub tokens : List TextToken
  pub fault : Option LexFault
  pub lexes : Lexes (record { text = text; at = 0 }) tokens fault
  pub are : names ≡ with_names earlier (own ++ name_texts text tokens)

-- the first of these names
pub record BeginNamesOf (own : List (List ℕ)) (earlier : List (List ℕ)) (text : List ℕ) (names : List (List ℕ)) : Type 0 where
  pub all : List (List ℕ)
  pub are : AreNamesOf own earlier text all
  pub begin : Extends names all

-- the reader's own names where it reads a text, and those where it reads a query
abbrev pub text_own : List (List ℕ)
text_own = word_texts ++ operator_texts

abbrev pub query_own : List (List ℕ)
query_own = syntax_texts

-- the names are the first of those; when memory ran out nothing is said
abbrev pub BeginNames : List (List ℕ) → List (List ℕ) → List ℕ → List (List ℕ) → ReadFault → Type 0
BeginNames own earlier text names (Refused kind at) = BeginNamesOf own earlier text names
BeginNames own earlier text names Memory = Unit {0}
