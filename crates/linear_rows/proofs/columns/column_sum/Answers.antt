use Rattle.std.proofs.Common.{rules, pos, get_or, arith, refl, ap, ◌∙◌, sym}
use Rattle.std.specs.Int.{w128}
use Rattle.std.specs.Prelude.{FitsSigned}
use Rattle.std.proofs.lemmas.Int.{to_z-of_z}
use Rattle.exact128.specs.Sums.{entry}
use Rattle.linear_rows.specs.Rows.{column}
use Rattle.linear_rows.specs.Plain.{plain_row, plain_rows}
use Rattle.linear_rows.proofs.ColumnSums.{sum_to_zero, sum_to_more, product_too_wide, sum_too_wide, column_at, length-column}
use Rattle.linear_rows.proofs.columns.column_sum.Goals as goal

pub loop-i-init : goal.loop-i-init
loop-i-init c = sum_to_zero _ _

pub loop-i-preserved : goal.loop-i-preserved
loop-i-preserved c =
    let fm : FitsSigned w128 (get_or c.args.multipliers.now c.loop-i.i (pos 0)) = search rules in
    let fe : FitsSigned w128 c.number.result = search rules in
    let at = c.number.ensures ∙ ap (λ r. entry (plain_row r) c.args.k) c.index-rows-i.is ∙ sym (column_at c.args.rows.now c.loop-i.i c.args.k c.index-rows-i.result (omega arith)) in
    let long = length-column c.args.rows.now c.args.k in
    let fp : FitsSigned w128 c.in-Some.product = search rules in
    let fn : FitsSigned w128 c.in-Some-plus.next = search rules in
    let a = simp to_z-of_z at c.in-Some.ensures in
    let b = simp to_z-of_z at c.in-Some-plus.ensures in
    simp to_z-of_z
    (sum_to_more c.args.multipliers.now (column (plain_rows c.args.rows.now) c.args.k) c.loop-i.i _ c.in-Some.product c.in-Some-plus.next _ _
    c.loop-i.invariant (omega arith) (omega arith) refl at a.0 a.1 b.0 b.1)

pub returns-in_default : goal.returns-in_default
returns-in_default c =
    let fm : FitsSigned w128 (get_or c.args.multipliers.now c.loop-i.i (pos 0)) = search rules in
    let fe : FitsSigned w128 c.number.result = search rules in
    let at = c.number.ensures ∙ ap (λ r. entry (plain_row r) c.args.k) c.index-rows-i.is ∙ sym (column_at c.args.rows.now c.loop-i.i c.args.k c.index-rows-i.result (omega arith)) in
    let long = length-column c.args.rows.now c.args.k in
    let out = simp to_z-of_z at c.in_default.ensures in
    product_too_wide c.args.multipliers.now (column (plain_rows c.args.rows.now) c.args.k) c.loop-i.i _ _ _ (omega arith) refl at out

pub returns-in_default-plus : goal.returns-in_default-plus
returns-in_default-plus c =
    let fm : FitsSigned w128 (get_or c.args.multipliers.now c.loop-i.i (pos 0)) = search rules in
    let fe : FitsSigned w128 c.number.result = search rules in
    let at = c.number.ensures ∙ ap (λ r. entry (plain_row r) c.args.k) c.index-rows-i.is ∙ sym (column_at c.args.rows.now c.loop-i.i c.args.k c.index-rows-i.result (omega arith)) in
    let long = length-column c.args.rows.now c.args.k in
    let fp : FitsSigned w128 c.in-Some.product = search rules in
    let a = simp to_z-of_z at c.in-Some.ensures in
    let out = simp to_z-of_z at c.in_default-plus.ensures in
    sum_too_wide c.args.multipliers.now (column (plain_rows c.args.rows.now) c.args.k) c.loop-i.i _ _ c.in-Some.product _ _
    c.loop-i.invariant (omega arith) (omega arith) (omega arith) refl at a.1 out
