use Rattle.std.proofs.Common.{pos, ap, sym, ◌∙◌, ◌++◌, ◌∷◌, [], append_assoc}
use Rattle.linear_rows.specs.Solving.{zeros}
use Rattle.redundant_rows.proofs.Appends.{zeros-push}
use Rattle.redundant_rows.proofs.appending.push_zeros.Goals as goal

pub loop-k-preserved : goal.loop-k-preserved
loop-k-preserved c =
    c.in_ok-push.ensures.ok ∙ ap (λ s. s ++ pos 0 ∷ []) c.loop-k.invariant
    ∙ append_assoc c.args.numbers.now (zeros c.loop-k.k) (pos 0 ∷ []) ∙ ap (λ s. c.args.numbers.now ++ s) (sym (zeros-push c.loop-k.k))
