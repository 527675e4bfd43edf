use Rattle.std.proofs.Common.{length, take}
use Rattle.termination_model.specs.grounds.Modes.{chosen_up_to}
use Rattle.number_lists.specs.Systems.{ForSystem}
use Rattle.number_lists.specs.Walked.{IsWalkedTo}
use Rattle.number_lists.proofs.walking.walk.Given as goal

abbrev pub invariant-loop-set : goal.invariant-loop-set
invariant-loop-set l = ForSystem l.system (λ members positions τs width. IsWalkedTo members positions τs width (take l.set-index (chosen_up_to (length positions) (length positions))) l.walked)
