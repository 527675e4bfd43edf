-- To believe, for reading.
-- Clauses of plain terms, and what is said of the terms. Terms with places are those of prolog_grammar.
--
-- To believe: all of this file.
use Rattle.std.specs.Prelude.{ℕ, suc, ◌+◌, Bool, true, ◌&&◌, nat_lt, List, [], ◌∷◌}
use Rattle.prolog_grammar.specs.Placed.{Tree, tree, Shape, Var, Int, Fun, Trees, no_trees, more_trees}

-- a clause's term, and how many variables the clause has
pub record Clause : Type 0 where
  pub term : Tree
  pub vars : ℕ

-- a list as arguments
abbrev pub row : List Tree → Trees
row [] = no_trees
row (t ∷ ts) = more_trees t (row ts)

-- arguments as a list
abbrev pub list_of : Trees → List Tree
list_of no_trees = []
list_of (more_trees t ts) = t ∷ list_of ts

-- how many arguments
abbrev pub arity : Trees → ℕ
arity no_trees = 0
arity (more_trees t ts) = suc (arity ts)

-- the place of a term
abbrev pub place : Tree → ℕ
place (tree at s) = at

abbrev mutual
  -- how many nodes a term has
  pub nodes : Tree → ℕ
  nodes (tree at s) = shape_nodes s

  pub shape_nodes : Shape → ℕ
  shape_nodes (Var v) = 1
  shape_nodes (Int i) = 1
  shape_nodes (Fun n ts) = suc (all_nodes ts)

  pub all_nodes : Trees → ℕ
  all_nodes no_trees = 0
  all_nodes (more_trees t ts) = nodes t + all_nodes ts

abbrev mutual
  -- each variable has a number below this
  pub is_below : ℕ → Tree → Bool
  is_below m (tree at s) = shape_below m s

  pub shape_below : ℕ → Shape → Bool
  shape_below m (Var v) = nat_lt v m
  shape_below m (Int i) = true
  shape_below m (Fun n ts) = all_below m ts

  pub all_below : ℕ → Trees → Bool
  all_below m no_trees = true
  all_below m (more_trees t ts) = is_below m t && all_below m ts

abbrev mutual
  -- each name has a number below this
  pub is_known : ℕ → Tree → Bool
  is_known m (tree at s) = shape_known m s

  pub shape_known : ℕ → Shape → Bool
  shape_known m (Var v) = true
  shape_known m (Int i) = true
  shape_known m (Fun n ts) = nat_lt n m && all_known m ts

  pub all_known : ℕ → Trees → Bool
  all_known m no_trees = true
  all_known m (more_trees t ts) = is_known m t && all_known m ts
