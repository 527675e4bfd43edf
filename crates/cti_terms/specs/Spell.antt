-- Private.
-- The plain tree that a term of the code spells.
--
-- To believe: `tree_of`, which goes by the three kinds of terms.
use Rattle.std.specs.Prelude.{List, map}
use Rattle.cti_terms.specs.declared.syntax.Term.{Term}
use Rattle.cti_terms.specs.declared.syntax.Term.TheOpen.{Term-F}
use Rattle.cti_terms.specs.declared.syntax.Term.TheOpen.Term-F.{Var, Int, Fun}
use Rattle.cti_terms.specs.declared.syntax.Term.TheFolds.{fold-Term}
use Rattle.cti_terms.specs.Tree.{Tree, Trees, Variable, Integer, Compound, trees}

-- the tree of a term whose arguments are trees already
abbrev pub tree_step : Term-F Tree → Tree
tree_step (Var x) = Variable x
tree_step (Int n) = Integer n
tree_step (Fun f args) = Compound f.0 (trees args.items)

-- the tree that a term spells
abbrev pub tree_of : Term → Tree
tree_of = fold-Term Tree tree_step

-- the arguments that a list of terms spells
abbrev pub trees_of : List Term → Trees
trees_of ts = trees (map tree_of ts)
