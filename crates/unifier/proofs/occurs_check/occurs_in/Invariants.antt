use Rattle.std.proofs.Common.{◌≡◌, ℕ}
use Rattle.std.specs.List.{AllByRecursion}
use Rattle.cti_terms.specs.Unify.{occurs}
use Rattle.unifier.specs.Raised.{raised_tree}
use Rattle.unifier.specs.Store.{full}
use Rattle.unifier.specs.Pending.{weight, occurs_left}
use Rattle.unifier.specs.Visits.{IsCovered, IsWanted, raw_arguments}
use Rattle.unifier.proofs.occurs_check.occurs_in.Given as goal

abbrev pub invariant-loop-next : goal.invariant-loop-next
invariant-loop-next l = record {
  left : (x : ℕ) → IsWanted l.variable l.above x → occurs_left l.bindings x (raw_arguments l.stack.items) ≡ occurs x (full l.bindings (raised_tree l.fn.term));
  covered : (x : ℕ) → IsWanted l.variable l.above x → AllByRecursion (IsCovered l.bindings x (raw_arguments l.stack.items)) l.visited;
}

abbrev pub decreases-loop-next : goal.decreases-loop-next
decreases-loop-next l = weight l.bindings (raw_arguments l.stack.items)
