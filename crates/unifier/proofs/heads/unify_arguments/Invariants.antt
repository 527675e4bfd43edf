use Rattle.std.proofs.Common.{◌≤◌, ◌-◌, min, length}
use Rattle.unifier.specs.Heads.{IsUnifiedTo}
use Rattle.unifier.specs.Pending.{StaysBelow}
use Rattle.unifier.proofs.heads.unify_arguments.Given as goal

abbrev pub invariant-loop-i : goal.invariant-loop-i
invariant-loop-i l = record {
  within : l.i ≤ min (length l.left.args.now) (length l.right.args.now);
  unified : IsUnifiedTo l.fn.bindings l.left.base l.right.base l.left.args.now l.right.args.now l.i l.limit l.bindings;
  stays : StaysBelow l.fn.limit l.fn.bindings l.limit l.bindings;
}

abbrev pub decreases-loop-i : goal.decreases-loop-i
decreases-loop-i l = min (length l.left.args.now) (length l.right.args.now) - l.i
