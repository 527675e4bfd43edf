use Rattle.std.proofs.Common.{◌+◌, ◌*◌}
use Rattle.prolog_terms.specs.Clauses.{nodes}
use Rattle.prolog_terms.specs.Terms.{tree_of}
use Rattle.clause_normal.proofs.outlining.+outlining.Given as goal

abbrev pub decreases-add_pieces : goal.decreases-add_pieces
decreases-add_pieces l = 2 * nodes (tree_of l.body.now)

abbrev pub decreases-add_disjunction : goal.decreases-add_disjunction
decreases-add_disjunction l = 2 * (nodes (tree_of l.left.now) + nodes (tree_of l.right.now)) + 1

abbrev pub decreases-add_outlines : goal.decreases-add_outlines
decreases-add_outlines l = 2 * nodes (tree_of l.body.now) + 1
