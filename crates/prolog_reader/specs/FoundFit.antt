-- Private.
-- Clauses that are found are in range. Nothing here has to be believed.
use Rattle.std.specs.Prelude.{◌+◌, ◌≤◌, ◌<◌, ℕ}
use Rattle.prolog_grammar.specs.Placed.{Known}
use Rattle.prolog_reader.specs.declared.clause_reading.Found.{Found}
use Rattle.prolog_reader.specs.declared.clause_reading.Found.TheVariants as found
use Rattle.prolog_terms.specs.Clauses.{Clause, nodes}
use Rattle.prolog_terms.specs.Terms.{clause_of}
use Rattle.prolog_reader.specs.Fit.{IsFit}

-- the nodes make up no more than the difference
pub record IsClauseFit (names before after : ℕ) (c : Clause) : Type 0 where
  pub fit : IsFit names c
  pub small : nodes c.term + before ≤ after

abbrev pub IsFoundFit : ℕ → ℕ → ℕ → Found → Type 0
IsFoundFit names before after (found.Clause c) = IsClauseFit names before after (clause_of c)
IsFoundFit names before after (found.Refused kind at) = Unit {0}

-- the names of the syntax are in range
pub record AreWithin (count : ℕ) (k : Known) : Type 0 where
  pub comma : k.comma < count
  pub nil : k.nil < count
  pub curly : k.curly < count
  pub cell : k.cell < count
