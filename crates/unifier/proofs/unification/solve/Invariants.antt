use Rattle.std.proofs.Common.{◌≡◌, List, ◌++◌, option_map}
use Rattle.cti_terms.specs.Unify.{Binding}
use Rattle.cti_terms.specs.UnifyFunction.{unify, occurring, above_equations}
use Rattle.unifier.specs.Store.{made}
use Rattle.unifier.specs.Below.{LeftBelow}
use Rattle.unifier.specs.Pending.{waiting, OccurBefore, StaysBelow, Extends, KeepsFree}
use Rattle.unifier.specs.Remembered.{AreRemembered}
use Rattle.unifier.proofs.unification.solve.Given as goal

abbrev pub invariant-loop-x : goal.invariant-loop-x
invariant-loop-x l = record {
  so_far : (bs : List Binding) × (made l.bindings ≡ made l.fn.bindings ++ bs) × (unify (waiting l.fn.bindings l.fn.equations.items) ≡ option_map (λ cs. bs ++ cs) (unify (waiting l.bindings l.equations.items)));
  limits : StaysBelow l.fn.limit l.fn.bindings l.limit l.bindings;
  left : LeftBelow l.limit (waiting l.bindings l.equations.items);
  pairs : AreRemembered l.bindings (waiting l.bindings l.equations.items) l.pairs;
  inside : OccurBefore (waiting l.fn.bindings l.fn.equations.items) (waiting l.bindings l.equations.items);
  free : KeepsFree (waiting l.fn.bindings l.fn.equations.items) l.fn.bindings l.bindings;
  extended : Extends l.bindings l.fn.bindings;
}

abbrev pub decreases-loop-x : goal.decreases-loop-x
decreases-loop-x l = occurring (above_equations (waiting l.fn.bindings l.fn.equations.items)) (waiting l.bindings l.equations.items)
