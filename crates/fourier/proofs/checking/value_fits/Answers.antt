use Rattle.std.proofs.Common.{rules, ◌<◌, arith, refl, length, get_or, pos}
use Rattle.std.specs.Int.{w128}
use Rattle.std.specs.Prelude.{FitsSigned}
use Rattle.std.proofs.lemmas.Int.{to_z-of_z}
use Rattle.fourier.proofs.ValueLemmas.{fits_goes_on, fits_stops}
use Rattle.fourier.proofs.checking.value_fits.Goals as goal

pub returns-in-None : goal.returns-in-None
returns-in-None c =
    let ft : FitsSigned w128 c.args.t = c.ranges.t in
    let fe : FitsSigned w128 c.entry.result = search rules in
    let fw : FitsSigned w128 (get_or c.args.w.now c.loop-k.k (pos 0)) = search rules in
    let lw : c.loop-k.k < length c.args.w.now = omega arith in
    let lr : c.loop-k.k < length c.args.row.now.coeffs = let l = c.requires in omega arith in
    let before = simp to_z-of_z at c.loop-k.invariant in
    let out = simp to_z-of_z at c.in-None.ensures in
    fits_stops _ c.args.row.now.coeffs c.args.w.now c.loop-k.k _ _ _ lr lw c.entry.ensures refl before out

pub loop-k-preserved : goal.loop-k-preserved
loop-k-preserved c =
    let ft : FitsSigned w128 c.args.t = c.ranges.t in
    let fe : FitsSigned w128 c.entry.result = search rules in
    let fw : FitsSigned w128 (get_or c.args.w.now c.loop-k.k (pos 0)) = search rules in
    let fn : FitsSigned w128 c.in-Some-plus_product.next = search rules in
    let lw : c.loop-k.k < length c.args.w.now = omega arith in
    let lr : c.loop-k.k < length c.args.row.now.coeffs = let l = c.requires in omega arith in
    let before = simp to_z-of_z at c.loop-k.invariant in
    let got = simp to_z-of_z at c.in-Some-plus_product.ensures in
    simp to_z-of_z (fits_goes_on _ c.in-Some-plus_product.next c.args.row.now.coeffs c.args.w.now c.loop-k.k _ _ _ lr lw c.entry.ensures refl before got.0.0 got.0.1 got.1)
