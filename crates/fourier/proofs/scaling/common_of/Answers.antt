use Rattle.std.proofs.Common.{rules, ◌≡◌, ◌<◌, arith, ap, sym, ◌∙◌, map, length, get_or}
use Rattle.std.specs.Int.{w128}
use Rattle.std.specs.Prelude.{FitsSigned}
use Rattle.std.proofs.lemmas.Int.{to_z-of_z}
use Rattle.std.proofs.lemmas.List.{get_or-map, length-map}
use Rattle.rational128.specs.Formulas.{fraction_of}
use Rattle.fourier.proofs.ValueLemmas.{common_goes_on, common_stops}
use Rattle.fourier.proofs.scaling.common_of.Goals as goal

pub returns-in-None-clause-value : goal.returns-in-None-clause-value
returns-in-None-clause-value c =
    let vs = map fraction_of c.args.values.now.items in
    let lt : c.loop-i.i < length c.args.values.now.items = omega arith in
    let lv : c.loop-i.i < length vs = omega (arith, length-map c.args.values.now.items fraction_of) in
    let ev : fraction_of c.index.result.now ≡ get_or vs c.loop-i.i (fraction_of c.index.result.now) =
    ap fraction_of c.index.ensures ∙ sym (get_or-map fraction_of c.args.values.now.items c.loop-i.i c.index.result.now (fraction_of c.index.result.now) lt) in
    let fd : FitsSigned w128 c.index.result.now.den = search rules in
    let out = simp to_z-of_z at c.in-None.ensures.value in
    common_stops _ vs c.loop-i.i (fraction_of c.index.result.now) _ lv ev c.loop-i.invariant.value out

pub loop-i-preserved : goal.loop-i-preserved
loop-i-preserved c =
    let vs = map fraction_of c.args.values.now.items in
    let lt : c.loop-i.i < length c.args.values.now.items = omega arith in
    let lv : c.loop-i.i < length vs = omega (arith, length-map c.args.values.now.items fraction_of) in
    let ev : fraction_of c.index.result.now ≡ get_or vs c.loop-i.i (fraction_of c.index.result.now) =
    ap fraction_of c.index.ensures ∙ sym (get_or-map fraction_of c.args.values.now.items c.loop-i.i c.index.result.now (fraction_of c.index.result.now) lt) in
    let fd : FitsSigned w128 c.index.result.now.den = search rules in
    let fm : FitsSigned w128 c.in-Some.more = search rules in
    let got = simp to_z-of_z at c.in-Some.ensures.value in
    simp to_z-of_z (record {
      value = common_goes_on _ vs c.loop-i.i (fraction_of c.index.result.now) c.in-Some.more _ lv ev c.loop-i.invariant.value got.0 got.1;
      positive = c.in-Some.ensures.positive;
    })
