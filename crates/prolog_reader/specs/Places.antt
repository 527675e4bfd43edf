-- Private.
-- Where what is read stands: a place counts the bytes before it, and is at most the text's length.
--
-- To believe: all of this file, and in prolog_grammar `IsPlaced`.
use Rattle.std.specs.Prelude.{ℕ, ◌≤◌, List}
use Rattle.std.specs.List.{AllByRecursion}
use Rattle.prolog_grammar.specs.Places.{IsPlaced}
use Rattle.prolog_reader.specs.declared.fault.ReadFault.{ReadFault}
use Rattle.prolog_reader.specs.declared.fault.ReadFault.TheVariants.{Fault as Refused, Memory}
use Rattle.prolog_terms.specs.Clauses.{Clause}

-- all terms of the clauses stand within this number of bytes
abbrev pub ArePlacedClauses : ℕ → List Clause → Type 0
ArePlacedClauses size cs = AllByRecursion (λ (c : Clause). IsPlaced size c.term) cs

-- the fault does
abbrev pub IsFaultPlaced : ℕ → ReadFault → Type 0
IsFaultPlaced size (Refused kind at) = at ≤ size
IsFaultPlaced size Memory = Unit {0}
