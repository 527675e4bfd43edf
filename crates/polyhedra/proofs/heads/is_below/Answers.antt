use Rattle.std.proofs.Common.{rules, ◌+ℤ◌, ◌∙◌}
use Rattle.std.specs.Int.{w128}
use Rattle.std.specs.Prelude.{FitsSigned}
use Rattle.std.proofs.lemmas.Int.{to_z-of_z}
use Rattle.exact128.specs.Fits.{Fits}
use Rattle.exact128.specs.Sums.{dot}
use Rattle.polyhedra.proofs.Remembered.{below_by_parts}
use Rattle.polyhedra.proofs.heads.is_below.Goals as goal

pub returns-in-Some-Some : goal.returns-in-Some-Some
returns-in-Some-Some c =
    let row = c.args.row.now in
    let point = c.args.point.now in
    let first = c.in-Some-Some.first in
    let rest = c.in-Some-Some.rest in
    let f : FitsSigned w128 row.constant = search rules in
    let g : FitsSigned w128 point.t = search rules in
    let h : FitsSigned w128 first = search rules in
    let k : FitsSigned w128 rest = search rules in
    let product = simp to_z-of_z at c.in-Some-Some.ensures in
    let sum = c.in-Some-Some.ensures' in
    let both = simp to_z-of_z at c.plus.ensures in
    λ e. below_by_parts row.constant point.t row.coeffs point.w first rest (Fits (first +ℤ rest)) c.plus.result product.1 (sum.1 ∙ (λ i. dot (c.as_slice.ensures i) (c.as_slice-2.ensures i))) both (c.is_negative.ensures e)
