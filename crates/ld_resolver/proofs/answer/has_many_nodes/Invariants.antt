use Rattle.std.proofs.Common.{◌≡◌, ◌≤◌, ◌+◌}
use Rattle.cti_terms.specs.Tree.{all_nodes}
use Rattle.cti_terms.specs.declared.limits.TheConstants.{MOST_ANSWER_NODES}
use Rattle.unifier.specs.Pending.{raw, weight}
use Rattle.ld_resolver.specs.Measured.{answered_terms}
use Rattle.ld_resolver.proofs.answer.has_many_nodes.Given as goal

abbrev pub invariant-loop-next : goal.invariant-loop-next
invariant-loop-next l = record {
  counted : l.nodes + weight l.bindings (raw l.stack.items) ≡ all_nodes (answered_terms l.bindings l.query);
  few : l.nodes ≤ MOST_ANSWER_NODES;
}

abbrev pub decreases-loop-next : goal.decreases-loop-next
decreases-loop-next l = weight l.bindings (raw l.stack.items)
