use Rattle.level_systems.specs.Subsequences.{AreOnce}
use Rattle.number_lists.specs.Large.{AreTried}
use Rattle.number_lists.specs.Systems.{ForSystem}
use Rattle.number_lists.proofs.large.leave_out.Given as goal

abbrev pub invariant-loop-number : goal.invariant-loop-number
invariant-loop-number l = ForSystem l.system (λ members positions τs width. AreOnce l.support → AreTried members positions τs width l.support l.number-index l.blown)
