use Rattle.std.proofs.Common.{rules, ℤ, List, ap, ◌∙◌}
use Rattle.std.specs.Int.{w128}
use Rattle.std.specs.Prelude.{FitsSigned}
use Rattle.std.proofs.lemmas.Int.{to_z-of_z}
use Rattle.exact128.specs.Sums.{dot}
use Rattle.linear_rows.proofs.RowValues.{value_is}
use Rattle.linear_rows.proofs.row.Row.value_at.Goals as goal

pub returns : goal.returns
returns c =
    let fp : FitsSigned w128 c.in_ok-products.products = search rules in
    let fx : FitsSigned w128 c.in_ok-times.field-0 = search rules in
    let ft : FitsSigned w128 c.args.t = search rules in
    let fc : FitsSigned w128 c.args.self.now.constant = search rules in
    let product = simp to_z-of_z at c.in_ok-times.ensures in
    let products = c.in_ok-products.ensures in
    let sum = simp to_z-of_z at c.plus.ensures in
    value_is c.args.self.now.constant c.args.t c.args.self.now.coeffs c.args.w.now _ c.in_ok-times.field-0 c.in_ok-products.products c.plus.result sum product.1 (products.1 ∙ ap (λ (xs : List ℤ). dot xs c.args.w.now) c.as_slice.ensures)
