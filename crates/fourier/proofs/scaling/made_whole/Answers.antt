use Rattle.std.proofs.Common.{rules, ◌≡◌, ◌<◌, arith, ap, sym, ◌∙◌, map, length, get_or, ◌∷◌, [], length-append}
use Rattle.std.specs.Int.{w128}
use Rattle.std.specs.Prelude.{FitsSigned}
use Rattle.std.proofs.lemmas.Int.{to_z-of_z}
use Rattle.std.proofs.lemmas.List.{get_or-map, length-map}
use Rattle.rational128.specs.Formulas.{fraction_of}
use Rattle.fourier.proofs.ValueLemmas.{made_goes_on, made_stops}
use Rattle.fourier.proofs.scaling.made_whole.Goals as goal

pub returns-in_default-clause-wide : goal.returns-in_default-clause-wide
returns-in_default-clause-wide c =
    let vs = map fraction_of c.args.values.now.items in
    let lt : c.loop-i.i < length c.args.values.now.items = omega arith in
    let lv : c.loop-i.i < length vs = omega (arith, length-map c.args.values.now.items fraction_of) in
    let ev : fraction_of c.index.result.now ≡ get_or vs c.loop-i.i (fraction_of c.index.result.now) =
    ap fraction_of c.index.ensures ∙ sym (get_or-map fraction_of c.args.values.now.items c.loop-i.i c.index.result.now (fraction_of c.index.result.now) lt) in
    let fc : FitsSigned w128 c.args.common = c.ranges.common in
    let before = simp to_z-of_z at c.loop-i.invariant.numbers in
    let out = simp to_z-of_z at c.in_default.ensures in
    λ e. made_stops c.args.common vs c.loop-i.i (fraction_of c.index.result.now) c.loop-i.numbers _ lv ev before out

pub loop-i-preserved : goal.loop-i-preserved
loop-i-preserved c =
    let vs = map fraction_of c.args.values.now.items in
    let lt : c.loop-i.i < length c.args.values.now.items = omega arith in
    let lv : c.loop-i.i < length vs = omega (arith, length-map c.args.values.now.items fraction_of) in
    let ev : fraction_of c.index.result.now ≡ get_or vs c.loop-i.i (fraction_of c.index.result.now) =
    ap fraction_of c.index.ensures ∙ sym (get_or-map fraction_of c.args.values.now.items c.loop-i.i c.index.result.now (fraction_of c.index.result.now) lt) in
    let fc : FitsSigned w128 c.args.common = c.ranges.common in
    let fn : FitsSigned w128 c.in-Some.number = search rules in
    let before = simp to_z-of_z at c.loop-i.invariant.numbers in
    let got = simp to_z-of_z at c.in-Some.ensures in
    let pushed = simp to_z-of_z at c.in_ok-push.ensures.ok in
    simp to_z-of_z (record {
      numbers = made_goes_on c.args.common vs c.loop-i.i (fraction_of c.index.result.now) c.in-Some.number c.loop-i.numbers c.push.new.self _ lv ev before got.0 got.1 pushed;
      long = omega (arith, c.loop-i.invariant.long, ap length pushed, length-append c.loop-i.numbers (c.in-Some.number ∷ []));
    })
