use Rattle.std.proofs.Common.{◌≡◌, []}
use Rattle.ld_resolver.specs.Values.{known, stack_by}
use Rattle.ld_resolver.proofs.values.calculate.Given as goal

abbrev pub invariant-loop-operator : goal.invariant-loop-operator
invariant-loop-operator l = stack_by l.operators.items (known l.values.items) ≡ stack_by l.fn.operators.items []

abbrev pub decreases-loop-operator : goal.decreases-loop-operator
decreases-loop-operator l = goal.left-loop-operator l
