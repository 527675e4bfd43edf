use Rattle.std.proofs.Common.{◌≡◌}
use Rattle.cti_terms.specs.UnifyFunction.{unify, work}
use Rattle.unifier.specs.Below.{LeftBelow}
use Rattle.unifier.specs.Pending.{waiting, OccurBefore}
use Rattle.unifier.specs.Remembered.{AreRemembered}
use Rattle.unifier.proofs.unification.next_binding.Given as goal

abbrev pub invariant-loop-l : goal.invariant-loop-l
invariant-loop-l l = record {
  same : unify (waiting l.bindings l.fn.equations.items) ≡ unify (waiting l.bindings l.equations.items);
  left : LeftBelow l.limit (waiting l.bindings l.equations.items);
  inside : OccurBefore (waiting l.bindings l.fn.equations.items) (waiting l.bindings l.equations.items);
  pairs : AreRemembered l.bindings (waiting l.bindings l.equations.items) l.pairs;
}

abbrev pub decreases-loop-l : goal.decreases-loop-l
decreases-loop-l l = work (waiting l.bindings l.equations.items)
