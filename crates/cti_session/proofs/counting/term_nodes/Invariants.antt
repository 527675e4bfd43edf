use Rattle.std.proofs.Common.{◌≡◌, ◌+◌}
use Rattle.prolog_terms.specs.Clauses.{nodes}
use Rattle.prolog_terms.specs.Terms.{tree_of}
use Rattle.cti_session.specs.Stacks.{stack_nodes, stack_work}
use Rattle.cti_session.proofs.counting.term_nodes.Given as goal

abbrev pub invariant-terms : goal.invariant-terms
invariant-terms l = l.count + stack_nodes l.stack.items ≡ nodes (tree_of l.term)

abbrev pub decreases-terms : goal.decreases-terms
decreases-terms l = stack_work l.stack.items
