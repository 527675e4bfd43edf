use Rattle.std.proofs.Common.{◌≡◌, ◌≤◌, ◌++◌, length, drop}
use Rattle.cti_terms.specs.Tree.{all_instances}
use Rattle.cti_terms.specs.Spell.{trees_of}
use Rattle.cti_terms.specs.Unify.{pairs}
use Rattle.unifier.specs.Raised.{raise}
use Rattle.unifier.specs.Pending.{raw_equations}
use Rattle.unifier.proofs.unification.push_equations.Given as goal

abbrev pub invariant-loop-i : goal.invariant-loop-i
invariant-loop-i l = record {
  left_within : l.i ≤ length l.left;
  right_within : l.i ≤ length l.right;
  pushed : raw_equations l.stack.items ≡ pairs (all_instances (raise l.left_base) (trees_of (drop l.i l.left))) (all_instances (raise l.right_base) (trees_of (drop l.i l.right))) ++ raw_equations l.fn.stack.items;
}

abbrev pub decreases-loop-i : goal.decreases-loop-i
decreases-loop-i l = l.i
