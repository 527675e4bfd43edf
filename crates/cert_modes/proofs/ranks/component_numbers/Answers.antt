use Rattle.std.proofs.Common.{◌∙◌, ◌++◌, ◌∷◌, []}
use Rattle.cert_modes.proofs.PlaceLaws.{take_more}
use Rattle.cert_modes.proofs.ranks.component_numbers.Goals as goal

pub loop-q-preserved : goal.loop-q-preserved
loop-q-preserved c =
    c.in_ok-push.ensures.items ∙ (λ i. c.loop-q.invariant i ++ c.of.result ∷ []) ∙ take_more c.args.comps.now.of c.loop-q.q c.of.result c.of.ensures
