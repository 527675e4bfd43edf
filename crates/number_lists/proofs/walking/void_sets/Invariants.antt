use Rattle.number_lists.specs.Found.{AreVoid}
use Rattle.number_lists.specs.Systems.{ForSystem}
use Rattle.number_lists.proofs.walking.void_sets.Given as goal

abbrev pub invariant-loop-number : goal.invariant-loop-number
invariant-loop-number l = ForSystem l.system (λ members positions τs width. AreVoid members positions τs width l.sets)
