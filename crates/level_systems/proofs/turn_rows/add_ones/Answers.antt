use Rattle.std.proofs.Common.{◌++◌, ◌∷◌, [], pos, ap, ◌∙◌}
use Rattle.termination_model.specs.lists.TurnSystem.{ones}
use Rattle.level_systems.proofs.TurnSteps.{ones_more}
use Rattle.termination_model.proofs.Lists.{append_assoc}
use Rattle.level_systems.proofs.turn_rows.add_ones.Goals as goal

pub loop-place-preserved : goal.loop-place-preserved
loop-place-preserved c =
    c.in_ok-push.ensures.items ∙ (λ i. c.loop-place.invariant i ++ pos 1 ∷ []) ∙ append_assoc c.args.row.now.items (ones c.loop-place._place) (pos 1 ∷ [])
    ∙ ap (λ s. c.args.row.now.items ++ s) (ones_more c.loop-place._place)
