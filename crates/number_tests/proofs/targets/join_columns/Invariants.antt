use Rattle.std.proofs.Common.{◌≡◌, take}
use Rattle.number_tests.specs.Targets.{joined}
use Rattle.number_tests.proofs.targets.join_columns.Given as goal

abbrev pub invariant-loop-x : goal.invariant-loop-x
invariant-loop-x l = l.columns.items ≡ joined (take l.x l.head) (take l.x l.call)
