-- Private.
-- The plain terms and clauses that values of the code stand for.
--
-- To believe: all of this file.
use Rattle.prolog_grammar.specs.Placed.{Tree, tree, Shape, Var, Int, Fun}
use Rattle.prolog_terms.specs.declared.term.ReadTerm.{ReadTerm}
use Rattle.prolog_terms.specs.declared.term.ReadShape.{ReadShape}
use Rattle.prolog_terms.specs.declared.term.ReadShape.TheOpen as layer
use Rattle.prolog_terms.specs.declared.term.ReadShape.TheFolds as folds
use Rattle.prolog_terms.specs.declared.clause.ReadClause.{ReadClause}
use Rattle.prolog_terms.specs.Clauses.{Clause, row}

abbrev pub shape_step : layer.ReadShape-F Shape Tree → Shape
shape_step (layer.Var v) = Var v
shape_step (layer.Int i) = Int i
shape_step (layer.Fun n ts) = Fun n.0 (row ts.items)

abbrev pub term_step : layer.ReadTerm-F Shape Tree → Tree
term_step r = tree r.at r.shape

-- the plain term
abbrev pub tree_of : ReadTerm → Tree
tree_of = folds.fold-ReadTerm Shape Tree shape_step term_step

-- the plain term without its place
abbrev pub shape_of : ReadShape → Shape
shape_of = folds.fold-ReadShape Shape Tree shape_step term_step

-- the plain clause
abbrev pub clause_of : ReadClause → Clause
clause_of c = record { term = tree_of c.term; vars = c.vars }
