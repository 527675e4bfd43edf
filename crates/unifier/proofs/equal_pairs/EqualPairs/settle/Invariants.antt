use Rattle.std.proofs.Common.{◌+◌, ◌≤◌, List, length}
use Rattle.cti_terms.specs.Unify.{Equation, Binding}
use Rattle.unifier.specs.Remembered.{AreRemembered}
use Rattle.unifier.proofs.equal_pairs.EqualPairs.settle.Given as goal

abbrev pub invariant-loop-pair : goal.invariant-loop-pair
invariant-loop-pair l = (s : List Binding) (es : List Equation) → length es ≤ l.left + 1 → AreRemembered s es l.fn.self → AreRemembered s es l.self

abbrev pub decreases-loop-pair : goal.decreases-loop-pair
decreases-loop-pair l = length l.self.under_way.items
