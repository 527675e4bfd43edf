use Rattle.number_turns.specs.Recalled.{recalled_of}
use Rattle.transition_tests.specs.Testing.{PlacedHolds}
use Rattle.transition_tests.specs.declared.group.PlacedPoint.{PlacedPoint}
use Rattle.transition_tests.proofs.Places.{UpTo}
use Rattle.transition_tests.proofs.points.points_hold.Given as goal

abbrev pub invariant-loop-x : goal.invariant-loop-x
invariant-loop-x l = UpTo (λ _ (x : PlacedPoint). PlacedHolds (recalled_of l.transitions) x) l.points l.x-index
