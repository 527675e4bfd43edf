use Rattle.std.proofs.Common.{length}
use Rattle.number_lists.specs.Large.{IsHadList, held_support_from}
use Rattle.number_lists.specs.Systems.{ForSystem}
use Rattle.number_lists.proofs.large.find_large.Given as goal

abbrev pub invariant-loop-list : goal.invariant-loop-list
invariant-loop-list l = ForSystem l.system (λ members positions τs width. IsHadList members positions τs width l.fn.list → IsHadList members positions τs width l.list)

abbrev pub decreases-loop-list : goal.decreases-loop-list
decreases-loop-list l = length (held_support_from 1 l.system.positions.now l.list.mappings)
