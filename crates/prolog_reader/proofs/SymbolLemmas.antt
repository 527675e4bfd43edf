-- The tokens of names.
use Rattle.std.proofs.Common.{◌≡◌, ◌⊎◌, inl, inr, ℕ, List, ap, sym, Option}
use Rattle.cti_terms.specs.Numbers.{number_of}
use Rattle.prolog_tokens.specs.Decoding.{characters_of}
use Rattle.prolog_tokens.specs.declared.token.TokenKind.TheVariants as kind
use Rattle.prolog_tokens.specs.declared.token.Token.{Token}
use Rattle.prolog_grammar.specs.Token.{Name}
use Rattle.prolog_terms.specs.Symbols.{Seen, token_of}

-- a name, quoted or not
pub named_token : (names : List (List ℕ)) (text : List ℕ) (seen : Seen) (before : Option Token) (t : Token) (n : ℕ) → (t.kind ≡ kind.Name) ⊎ (t.kind ≡ kind.Quoted)
    → number_of names (characters_of text t) ≡ n → Name t.start n ≡ token_of names text seen before t
named_token names text seen before t n (inl k) number = rw k (ap (Name t.start) (sym (rw k at number)))
named_token names text seen before t n (inr k) number = rw k (ap (Name t.start) (sym (rw k at number)))
