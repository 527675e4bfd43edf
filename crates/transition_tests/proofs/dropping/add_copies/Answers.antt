use Rattle.std.proofs.Common.{◌≡◌, ◌∙◌, ◌++◌, ◌∷◌, [], Option, take, slice_get, Some, ap, sym, arith}
use Rattle.linear_rows.specs.declared.row.Row.{Row}
use Rattle.termination_model.proofs.Lists.{append_assoc, at_place, taken_more}
use Rattle.transition_tests.proofs.dropping.add_copies.Goals as goal

pub loop-i-preserved : goal.loop-i-preserved
loop-i-preserved c =
    let columns = c.args.columns.now in
    let i = c.loop-i.i in
    let x : Option Row = c.index-columns-i.result in
    let at : slice_get columns i ≡ Some x = at_place columns i x (omega arith) c.index-columns-i.is in
    c.in_ok-push.ensures.ok
    ∙ (λ j. c.loop-i.invariant j ++ c.in_ok-copied.ensures j ∷ [])
    ∙ append_assoc c.args.list.now (take i columns) (x ∷ [])
    ∙ ap (λ s. c.args.list.now ++ s) (sym (taken_more columns i x at))
