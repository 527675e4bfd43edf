-- To believe, for reading.
-- What the tokens at hand read as: the first clause as a term with places, or the first fault.
--
-- The tokens of a query are read with an End after them, where they have none, and nothing may stand after it.
--
-- To believe: all of this file. It says once more, for the terms of the code, what `Grammar`, `Depth`, `Fault` and
-- `Placed` say.
use Rattle.std.specs.Prelude.{◌≡◌, ℕ, List, ◌∷◌, Option, None, Ok, Err}
use Rattle.prolog_grammar.specs.Token.{Token, End}
use Rattle.prolog_grammar.specs.Rules.{Infix, Prefix}
use Rattle.prolog_grammar.specs.Grammar.{TermOf}
use Rattle.prolog_grammar.specs.Syntax.{Syntax, syntax_rules}
use Rattle.prolog_grammar.specs.Depth.{clause_loads, first_deep}
use Rattle.prolog_grammar.specs.Fault.{IsUnexpected, IsDeep, unexpected, deep, Verdict}
use Rattle.prolog_grammar.specs.Placed.{Part, Known, part_of}

module _ (limit : ℕ) (infixes : ℕ → Option Infix) (prefixes : ℕ → Option Prefix) (names : Known) where
  -- The first clause of these tokens reads as that term: the grammar has a reading of it in which no token is too deep.
  -- The rest stands after its End.
  pub record ReadsAs (us rest : List Token) (part : Part) : Type 0 where
    pub syntax : Syntax
    pub priority : ℕ
    pub reads : TermOf (syntax_rules infixes prefixes names.comma) us (End ∷ rest) 1200 syntax priority
    pub shallow : first_deep limit (clause_loads syntax) ≡ None
    pub built : part ≡ part_of limit names syntax

  -- What the tokens read as, or their first fault. At one token the fault unexpected comes before deep.
  abbrev pub IsVerdict : List Token → Verdict Part → Type 0
  IsVerdict us (Ok r) = ReadsAs us r.1 r.0
  IsVerdict us (Err (unexpected rest)) =
      IsUnexpected (syntax_rules infixes prefixes names.comma) us rest
      × ((rest' : List Token) → IsDeep limit (syntax_rules infixes prefixes names.comma) us rest' → ⊥)
  IsVerdict us (Err (deep rest)) = IsDeep limit (syntax_rules infixes prefixes names.comma) us rest
