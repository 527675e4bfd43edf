use Rattle.std.proofs.Common.{◌≤◌, ◌-◌, min, length}
use Rattle.unifier.specs.Heads.{IsUnifiedTo}
use Rattle.unifier.proofs.heads.unify_head.Given as goal

abbrev pub invariant-loop-i : goal.invariant-loop-i
invariant-loop-i l = record {
  within : l.i ≤ min (length l.left) (length l.right);
  unified : IsUnifiedTo l.fn.bindings l.fn.base l.fn.fresh l.left l.right l.i l.limit l.bindings;
}

abbrev pub decreases-loop-i : goal.decreases-loop-i
decreases-loop-i l = min (length l.left) (length l.right) - l.i
