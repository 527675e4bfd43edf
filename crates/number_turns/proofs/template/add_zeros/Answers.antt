use Rattle.std.proofs.Common.{◌++◌, ◌∷◌, [], pos, ap, ◌∙◌}
use Rattle.linear_rows.specs.Solving.{zeros}
use Rattle.termination_model.proofs.Lists.{append_assoc}
use Rattle.number_turns.proofs.RowLists.{zeros_more}
use Rattle.number_turns.proofs.template.add_zeros.Goals as goal

pub loop-place-preserved : goal.loop-place-preserved
loop-place-preserved c =
    c.in_ok-push.ensures.items ∙ (λ i. c.loop-place.invariant i ++ pos 0 ∷ []) ∙ append_assoc c.args.row.now.items (zeros c.loop-place._place) (pos 0 ∷ [])
    ∙ ap (λ s. c.args.row.now.items ++ s) (zeros_more c.loop-place._place)
