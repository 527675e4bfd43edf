use Rattle.std.proofs.Common.{rules, ◌≡◌, ◌<◌, ◌+◌, ◌+ℤ◌, pos, length, refl, sym, subst, ◌∙◌, arith, FitsSigned}
use Rattle.std.specs.Int.{w128}
use Rattle.std.proofs.lemmas.Int.{ints, to_z-of_z}
use Rattle.exact128.specs.Fits.{Fits}
use Rattle.exact128.specs.Sums.{entry}
use Rattle.linear_rows.specs.Plain.{plain_row}
use Rattle.linear_rows.proofs.ColumnSums.{sum_to_zero, sum_to_more, product_too_wide, sum_too_wide}
use Rattle.number_tests.specs.Refuting.{numbers_of}
use Rattle.number_tests.proofs.SumLists.{entry_next}
use Rattle.transition_tests.proofs.values.value_at.Goals as goal

pub loop-x-init : goal.loop-x-init
loop-x-init c =
    let row = c.args.row.now in
    let point = c.args.point.now in
    let fc : FitsSigned w128 row.constant = search rules in
    let ft : FitsSigned w128 point.t = search rules in
    let fs : FitsSigned w128 c.in-Some.sum = search rules in
    let a = simp to_z-of_z at c.in-Some.ensures in
    let zero : pos 0 +ℤ c.in-Some.sum ≡ c.in-Some.sum = omega (arith, ints) in
    simp to_z-of_z (sum_to_more (plain_row row) (numbers_of point) 0 (pos 0) c.in-Some.sum c.in-Some.sum row.constant point.t (sum_to_zero (plain_row row) (numbers_of point)) (omega arith) (omega arith) refl refl a.0 a.1
    (subst Fits (sym (zero ∙ a.1)) a.0) (sym zero))

pub returns-in_default-times : goal.returns-in_default-times
returns-in_default-times c =
    let xs = plain_row c.args.row.now in
    let ys = numbers_of c.args.point.now in
    let n = c.loop-x.x + 1 in
    let fx : FitsSigned w128 c.entry.result = search rules in
    let fy : FitsSigned w128 c.entry-in-loop-x.result = search rules in
    let ex : c.entry.result ≡ entry xs n = c.entry.ensures ∙ sym (entry_next c.args.row.now.constant c.args.row.now.coeffs c.loop-x.x) in
    let ey : c.entry-in-loop-x.result ≡ entry ys n = c.entry-in-loop-x.ensures ∙ sym (entry_next c.args.point.now.t c.args.point.now.w c.loop-x.x) in
    let below : n < length xs = omega (arith, c.len-x-end.ensures) in
    let within : n < length ys = omega (arith, c.len-x-end.ensures, c.requires) in
    let out = simp to_z-of_z at c.in_default-times.ensures in
    product_too_wide xs ys n (length xs) _ _ below ex ey out

pub returns-in_default-plus : goal.returns-in_default-plus
returns-in_default-plus c =
    let xs = plain_row c.args.row.now in
    let ys = numbers_of c.args.point.now in
    let n = c.loop-x.x + 1 in
    let fx : FitsSigned w128 c.entry.result = search rules in
    let fy : FitsSigned w128 c.entry-in-loop-x.result = search rules in
    let ex : c.entry.result ≡ entry xs n = c.entry.ensures ∙ sym (entry_next c.args.row.now.constant c.args.row.now.coeffs c.loop-x.x) in
    let ey : c.entry-in-loop-x.result ≡ entry ys n = c.entry-in-loop-x.ensures ∙ sym (entry_next c.args.point.now.t c.args.point.now.w c.loop-x.x) in
    let below : n < length xs = omega (arith, c.len-x-end.ensures) in
    let within : n < length ys = omega (arith, c.len-x-end.ensures, c.requires) in
    let fp : FitsSigned w128 c.in-Some-times.product = search rules in
    let a = simp to_z-of_z at c.in-Some-times.ensures in
    let out = simp to_z-of_z at c.in_default-plus.ensures in
    sum_too_wide xs ys n (length xs) _ c.in-Some-times.product _ _ c.loop-x.invariant below within below ex ey a.1 out

pub loop-x-preserved : goal.loop-x-preserved
loop-x-preserved c =
    let xs = plain_row c.args.row.now in
    let ys = numbers_of c.args.point.now in
    let n = c.loop-x.x + 1 in
    let fx : FitsSigned w128 c.entry.result = search rules in
    let fy : FitsSigned w128 c.entry-in-loop-x.result = search rules in
    let ex : c.entry.result ≡ entry xs n = c.entry.ensures ∙ sym (entry_next c.args.row.now.constant c.args.row.now.coeffs c.loop-x.x) in
    let ey : c.entry-in-loop-x.result ≡ entry ys n = c.entry-in-loop-x.ensures ∙ sym (entry_next c.args.point.now.t c.args.point.now.w c.loop-x.x) in
    let below : n < length xs = omega (arith, c.len-x-end.ensures) in
    let within : n < length ys = omega (arith, c.len-x-end.ensures, c.requires) in
    let fp : FitsSigned w128 c.in-Some-times.product = search rules in
    let fn : FitsSigned w128 c.in-Some-plus.next = search rules in
    let a = simp to_z-of_z at c.in-Some-times.ensures in
    let b = simp to_z-of_z at c.in-Some-plus.ensures in
    simp to_z-of_z (sum_to_more xs ys n _ c.in-Some-times.product c.in-Some-plus.next _ _ c.loop-x.invariant below within ex ey a.0 a.1 b.0 b.1)
