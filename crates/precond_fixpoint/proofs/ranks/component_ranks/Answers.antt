use Rattle.std.proofs.Common.{◌∙◌, ◌+◌, ◌++◌, ◌∷◌, []}
use Rattle.precond_fixpoint.proofs.PlaceLaws.{ranks_more}
use Rattle.precond_fixpoint.proofs.ranks.component_ranks.Goals as goal

pub loop-q-preserved : goal.loop-q-preserved
loop-q-preserved c =
    c.in_ok-push.ensures.items ∙ (λ i. c.loop-q.invariant i ++ (c.of-component.result + 1) ∷ []) ∙ ranks_more c.args.comps.now.of c.loop-q.q c.of-component.result c.of-component.ensures
