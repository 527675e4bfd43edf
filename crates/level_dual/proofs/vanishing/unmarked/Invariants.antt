use Rattle.level_dual.specs.Vanishing.{AreMarkedOrIn}
use Rattle.level_dual.proofs.vanishing.unmarked.Given as goal

abbrev pub invariant-loop-k : goal.invariant-loop-k
invariant-loop-k l = AreMarkedOrIn l.k l.marks l.numbers.items
