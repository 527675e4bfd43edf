use Rattle.std.proofs.Common.{◌≡◌, ◌≤◌, ◌+◌}
use Rattle.cti_terms.specs.Spell.{tree_of}
use Rattle.cti_terms.specs.Tree.{nodes_of}
use Rattle.term_size.specs.ListSize.{end_of, list_size}
use Rattle.term_size.proofs.list_size.ListSize.cells.Given as goal

abbrev pub invariant-loop-tail : goal.invariant-loop-tail
invariant-loop-tail l = record {
  counted : l.count + list_size l.self.dot (λ _. 0) (tree_of l.rest) ≡ list_size l.self.dot (λ _. 0) (tree_of l.t);
  ends : end_of l.self.dot (tree_of l.rest) ≡ end_of l.self.dot (tree_of l.t);
  few : l.count + nodes_of (tree_of l.rest) ≤ nodes_of (tree_of l.t);
}

abbrev pub decreases-loop-tail : goal.decreases-loop-tail
decreases-loop-tail l = nodes_of (tree_of l.rest)
