use Rattle.std.proofs.Common.{◌++◌, ◌∷◌, [], sym, ◌∙◌, FitsSigned, rules}
use Rattle.std.specs.Int.{w128}
use Rattle.std.proofs.lemmas.Int.{to_z-of_z}
use Rattle.term_size.proofs.ListLaws.{ends_more}
use Rattle.term_size.proofs.list_size.end_coefficients.Goals as goal

pub loop-x-preserved : goal.loop-x-preserved
loop-x-preserved c =
    let f : FitsSigned w128 c.end_coefficient.result = search rules in
    let pushed = simp to_z-of_z at c.in_ok-push.ensures.items in
    pushed ∙ (λ i. c.loop-x.invariant i ++ c.end_coefficient.ensures i ∷ []) ∙ sym (ends_more c.loop-x.x c.args.end)
