use Rattle.std.proofs.Common.{ℕ, ◌+◌, ◌≤◌, ◌<◌, List, [], ◌∷◌, ◌++◌}
use Rattle.cti_terms.specs.Tree.{Tree, nodes_of}
use Rattle.unifier.specs.Store.{full}
use Rattle.unifier.specs.Pending.{weight}
use Rattle.unifier.specs.Visits.{IsWanted, Leads, arguments_tree, raw_arguments}
use Rattle.unifier.proofs.LeadLaws.{arguments_from}
use Rattle.unifier.proofs.occurs_check.look_at_all.Given as goal

abbrev pub invariant-loop-term : goal.invariant-loop-term
invariant-loop-term l = record {
  above : l.fn.above ≤ l.above;
  leads : (more : List Tree) (x : ℕ) → IsWanted l.variable l.above x → Leads l.bindings x ((more ++ raw_arguments l.fn.stack.items) ++ arguments_tree l.next ∷ []) l.fn.visited ((more ++ arguments_from l.base l.term-index l.term-items) ++ raw_arguments l.stack.items) l.visited;
  weight : weight l.bindings (raw_arguments l.stack.items) + weight l.bindings (arguments_from l.base l.term-index l.term-items) < weight l.bindings (raw_arguments l.fn.stack.items) + nodes_of (full l.bindings (arguments_tree l.next));
}
