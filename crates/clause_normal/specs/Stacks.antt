-- Private.
-- What is on a stack, whose last element is on top. Nothing here has to be believed.
use Rattle.std.specs.Prelude.{ℕ, ◌+◌, List, [], ◌∷◌, ◌++◌}
use Rattle.std.specs.Borrow.{Bor}
use Rattle.prolog_terms.specs.declared.term.ReadTerm.{ReadTerm}
use Rattle.prolog_terms.specs.Clauses.{nodes}
use Rattle.prolog_terms.specs.Terms.{tree_of}
use Rattle.clause_normal.specs.Query.{query_goals}
use Rattle.clause_normal.specs.Bodies.{Goal}

-- how many nodes there are
abbrev pub stack_nodes : List (Bor ReadTerm) → ℕ
stack_nodes [] = 0
stack_nodes (t ∷ below) = stack_nodes below + nodes (tree_of t.now)

-- the goals of the queries on a stack, those on top first
abbrev pub stack_query : List (List ℕ) → List (Bor ReadTerm) → List Goal
stack_query names [] = []
stack_query names (t ∷ below) = stack_query names below ++ query_goals names (tree_of t.now)
