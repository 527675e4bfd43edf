-- Private.
-- What callers need of the clauses that are read: all numbers are in range.
use Rattle.std.specs.Prelude.{◌≤◌, ℕ, IsTrue, List, sum_by}
use Rattle.std.specs.List.{AllByRecursion}
use Rattle.prolog_terms.specs.Clauses.{Clause, nodes, is_below, is_known}

-- a clause in which each variable is below its number of variables, and each name below `names`
pub record IsFit (names : ℕ) (c : Clause) : Type 0 where
  pub below : IsTrue (is_below c.vars c.term)
  pub known : IsTrue (is_known names c.term)

-- the clauses of a text, whose terms have together at most two nodes for each byte that a text may have
pub record AreFit (names : ℕ) (clauses : List Clause) : Type 0 where
  pub each : AllByRecursion (IsFit names) clauses
  pub small : sum_by (λ (c : Clause). nodes c.term) clauses ≤ 2097152

-- the clause of a query
pub record IsQueryFit (names : ℕ) (c : Clause) : Type 0 where
  pub fit : IsFit names c
  pub small : nodes c.term ≤ 2097152
