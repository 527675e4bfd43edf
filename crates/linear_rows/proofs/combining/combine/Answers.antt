use Rattle.std.proofs.Common.{rules, sym}
use Rattle.std.specs.Int.{w128}
use Rattle.std.specs.Prelude.{FitsSigned}
use Rattle.std.proofs.lemmas.Int.{to_z-of_z}
use Rattle.std.proofs.lemmas.List.{length-map}
use Rattle.linear_rows.specs.Plain.{plain_row}
use Rattle.linear_rows.proofs.Combines.{partial_one, partial_more}
use Rattle.linear_rows.proofs.combining.combine.Goals as goal

pub loop-k-preserved : goal.loop-k-preserved
loop-k-preserved c =
    let fs : FitsSigned w128 c.in-Some-column_sum.sum = search rules in
    let a = rw c.as_slice-in-loop-k.ensures at c.in-Some-column_sum.ensures in
    let b = simp to_z-of_z at c.in_ok-push.ensures.ok in
    rw b (partial_more _ _ _ _ _ _ c.loop-k.invariant (sym (length-map c.args.rows.now.list plain_row)) a.0 a.1)

pub loop-k-init : goal.loop-k-init
loop-k-init c =
    let fs : FitsSigned w128 c.in-Some.constant = search rules in
    let a = rw c.as_slice.ensures at c.in-Some.ensures in
    simp (to_z-of_z, c.new-coeffs.ensures) (partial_one _ _ _ _ (sym (length-map c.args.rows.now.list plain_row)) a.0 a.1)
