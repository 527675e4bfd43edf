-- Private.
-- Bytes that complete a clause.
--
-- To believe: all of this file.
use Rattle.std.specs.Prelude.{◌≡◌, ℕ, List, [], ◌∷◌, ◌++◌, take, None}
use Rattle.prolog_tokens.specs.Stream.{Lexes}
use Rattle.prolog_tokens.specs.declared.token.TokenKind.TheVariants as kind
use Rattle.prolog_tokens.specs.declared.token.Token.{Token as TextToken}
use Rattle.prolog_grammar.specs.Token.{Token}
use Rattle.prolog_grammar.specs.Rules.{Rules}
use Rattle.prolog_grammar.specs.Syntax.{Syntax, syntax_rules}
use Rattle.prolog_grammar.specs.Fault.{IsClause}
use Rattle.prolog_terms.specs.Symbols.{none_seen, tokens_of}
use Rattle.prolog_operators.specs.Table.{Table}
use Rattle.prolog_reader.specs.Words.{known}

-- the place after the last of these tokens, where they begin after a place
abbrev pub end_behind : ℕ → List TextToken → ℕ
end_behind at [] = at
end_behind at (t ∷ ts) = end_behind t.end ts

-- the tokens of whole clauses: the last of them is an End
abbrev pub EndClauses : List TextToken → Type 0
EndClauses [] = Unit {0}
EndClauses (t ∷ []) = t.kind ≡ kind.End
EndClauses (t ∷ u ∷ ts) = EndClauses (u ∷ ts)

-- the grammar with the operators of a table, on trees with all their tokens
abbrev pub rules_by : List (List ℕ) → Table → Rules Syntax
rules_by names table = syntax_rules table.infixes table.prefixes (known names).comma

-- the tokens of a clause in a text as the grammar sees them
abbrev pub seen_tokens : List (List ℕ) → List ℕ → List TextToken → List Token
seen_tokens names text ts = tokens_of names text none_seen None ts

-- the text up to the end of these tokens, and then other bytes
abbrev pub text_with : List ℕ → List TextToken → List ℕ → List ℕ
text_with text ts bytes = take (end_behind 0 ts) text ++ bytes

-- Some bytes complete the clause that these tokens of a text begin, after those of earlier clauses. Where the bytes
-- stand after the last of the tokens, in the place of what stood there, the tokens are still what they were, and those
-- that follow make them a clause.
pub record IsCompleted (names : List (List ℕ)) (table : Table) (text : List ℕ) (earlier begun : List TextToken) : Type 0 where
  pub bytes : List ℕ
  pub more : List TextToken
  pub lexes : Lexes (record { text = text_with text (earlier ++ begun) bytes; at = 0 }) (earlier ++ (begun ++ more)) None
  pub clause : IsClause (rules_by names table) (seen_tokens names (text_with text (earlier ++ begun) bytes) (begun ++ more))
