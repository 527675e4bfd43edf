use Rattle.std.proofs.Common.{◌≡◌, ◌<◌, ◌≤◌, ◌∷◌, [], true, false, arith, ap, sym, ◌∙◌, length, get_or, pos, below_more}
use Rattle.std.proofs.lemmas.Option.{get_or_from_slice_get}
use Rattle.std.specs.Int.{w128}
use Rattle.std.specs.Prelude.{FitsSigned}
use Rattle.std.proofs.lemmas.Int.{to_z-of_z}
use Rattle.std.proofs.lemmas.List.{get_or-map, length-map}
use Rattle.linear_rows.specs.Plain.{plain_row, plain_rows}
use Rattle.linear_rows.specs.Solving.{sums_fit, point_fits}
use Rattle.sparse_rows.proofs.Alls.{all_from, all_not}
use Rattle.fourier.proofs.checking.point_fits.Goals as goal

pub returns-then-not-value_fits : goal.returns-then-not-value_fits
unfolding point_fits
returns-then-not-value_fits c =
    let ft : FitsSigned w128 c.args.t = c.ranges.t in
    let given = plain_rows c.args.rows.now.list in
    let lt : c.loop-i.i < length c.args.rows.now.list = omega arith in
    let lg : c.loop-i.i < length given = omega (arith, length-map c.args.rows.now.list plain_row) in
    let at : get_or given c.loop-i.i [] ≡ plain_row c.get.result.now = get_or-map plain_row c.args.rows.now.list c.loop-i.i c.get.result.now [] lt ∙ ap plain_row (get_or_from_slice_get c.args.rows.now.list c.loop-i.i c.get.result.now c.get.result.now c.get.ensures) in
    let e = simp to_z-of_z at c.value_fits.ensures in
    let no_fit : sums_fit (pos 0) (get_or given c.loop-i.i []) (c.args.t ∷ c.args.w.now) ≡ false = ap (λ r. sums_fit (pos 0) r (c.args.t ∷ c.args.w.now)) at ∙ sym e ∙ c.if-not-value_fits.true in
    sym (all_not (λ r. sums_fit (pos 0) r (c.args.t ∷ c.args.w.now)) given [] c.loop-i.i lg no_fit)

pub loop-i-preserved : goal.loop-i-preserved
loop-i-preserved c =
    let ft : FitsSigned w128 c.args.t = c.ranges.t in
    let given = plain_rows c.args.rows.now.list in
    let lt : c.loop-i.i < length c.args.rows.now.list = omega arith in
    let at : get_or given c.loop-i.i [] ≡ plain_row c.get.result.now = get_or-map plain_row c.args.rows.now.list c.loop-i.i c.get.result.now [] lt ∙ ap plain_row (get_or_from_slice_get c.args.rows.now.list c.loop-i.i c.get.result.now c.get.result.now c.get.ensures) in
    let e = simp to_z-of_z at c.value_fits.ensures in
    let fit : sums_fit (pos 0) (get_or given c.loop-i.i []) (c.args.t ∷ c.args.w.now) ≡ true = ap (λ r. sums_fit (pos 0) r (c.args.t ∷ c.args.w.now)) at ∙ sym e ∙ c.if-not-value_fits.false in
    let before = simp to_z-of_z at c.loop-i.invariant in
    simp to_z-of_z (below_more (λ j. sums_fit (pos 0) (get_or given j []) (c.args.t ∷ c.args.w.now) ≡ true) c.loop-i.i before fit)

pub returns : goal.returns
unfolding point_fits
returns c =
    let ft : FitsSigned w128 c.args.t = c.ranges.t in
    let given = plain_rows c.args.rows.now.list in
    let before = simp to_z-of_z at c.loop-i.invariant in
    let same = length-map c.args.rows.now.list plain_row in
    let le : length c.args.rows.now.list ≤ c.loop-i.i = omega arith in
    sym (all_from (λ r. sums_fit (pos 0) r (c.args.t ∷ c.args.w.now)) given [] (λ j l. before j (omega (arith, same, le, l))))
