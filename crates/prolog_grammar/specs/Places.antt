-- Private.
-- Terms whose places stand within a text of the given number of bytes.
--
-- To believe: all of this file.
use Rattle.std.specs.Prelude.{ℕ, ◌≤◌}
use Rattle.prolog_grammar.specs.Placed.{Tree, tree, Shape, Var, Int, Fun, Trees, no_trees, more_trees}

abbrev mutual
  pub IsPlaced : ℕ → Tree → Type 0
  IsPlaced size (tree at s) = (at ≤ size) × IsShapePlaced size s

  pub IsShapePlaced : ℕ → Shape → Type 0
  IsShapePlaced size (Var v) = Unit {0}
  IsShapePlaced size (Int i) = Unit {0}
  IsShapePlaced size (Fun n ts) = ArePlaced size ts

  pub ArePlaced : ℕ → Trees → Type 0
  ArePlaced size no_trees = Unit {0}
  ArePlaced size (more_trees t ts) = IsPlaced size t × ArePlaced size ts
