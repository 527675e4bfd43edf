use Rattle.std.proofs.Common.{◌≡◌, ◌++◌, ◌∷◌, [], sym, ◌∙◌, arith}
use Rattle.termination_model.proofs.Lists.{at_place}
use Rattle.number_tests.proofs.TargetLists.{joined_more}
use Rattle.number_tests.proofs.targets.join_columns.Goals as goal

pub loop-x-preserved : goal.loop-x-preserved
loop-x-preserved c =
    let x = c.index-head-x.result in
    let y = c.index-call-x.result in
    let n = c.loop-x.x in
    let one : c.from_vec.result ≡ x ++ y =
    c.from_vec.ensures ∙ c.in_ok-extend_from_slice.ensures.items ∙ (λ i. (c.in_ok-numbers.ensures.items ∙ c.as_slice.ensures) i ++ c.as_slice-in-loop-x.ensures i) in
    c.in_ok-push.ensures.items ∙ (λ i. c.loop-x.invariant i ++ one i ∷ [])
    ∙ sym (joined_more c.args.head.now c.args.call.now n x y (at_place c.args.head.now n x (omega arith) c.index-head-x.is) (at_place c.args.call.now n y (omega arith) c.index-call-x.is))
