use Rattle.std.proofs.Common.{◌≡◌, ◌++◌, ◌∷◌, [], ◌∙◌, Some, arith, slice_get, sym}
use Rattle.linear_rows.specs.Plain.{plain_row}
use Rattle.termination_model.proofs.Lists.{at_place, mapped_more}
use Rattle.size_chains.proofs.sharing.are_same_rows.Goals as goal

pub loop-i-preserved : goal.loop-i-preserved
loop-i-preserved c =
    let xs = c.args.a.now in
    let ys = c.args.b.now in
    let n = c.loop-i.i in
    let x = c.index-a-i.result in
    let y = c.index-b-i.result in
    let at : slice_get xs n ≡ Some x = at_place xs n x (omega arith) c.index-a-i.is in
    let there : slice_get ys n ≡ Some y = at_place ys n y (omega arith) c.index-b-i.is in
    let same : plain_row x ≡ plain_row y = c.is_same_row.ensures c.if-not-is_same_row.false in
    sym (mapped_more plain_row [] xs n x at)
    ∙ (λ i. c.loop-i.invariant i ++ same i ∷ [])
    ∙ mapped_more plain_row [] ys n y there
