use Rattle.std.proofs.Common.{rules, ◌≡◌, ◌<◌, ◌≤◌, ◌+◌, arith, ap, sym, ◌∙◌, map, length, get_or}
use Rattle.std.specs.Int.{w128}
use Rattle.std.specs.Prelude.{FitsSigned}
use Rattle.std.proofs.lemmas.Int.{to_z-of_z}
use Rattle.std.proofs.lemmas.List.{get_or-map, length-map}
use Rattle.std.proofs.lemmas.Result.{err_from_is_err_and}
use Rattle.rational128.specs.Formulas.{fraction_of}
use Rattle.fourier.proofs.BoundLemmas.{sum_goes_on, sum_stops, sum_ends}
use Rattle.fourier.proofs.bounding.sum_on.Goals as goal

pub loop-j-preserved : goal.loop-j-preserved
loop-j-preserved c =
    let vs = map fraction_of c.args.values.now.items in
    let lt : c.loop-j.j < length c.args.values.now.items = omega arith in
    let lv : c.loop-j.j < length vs = omega (arith, length-map c.args.values.now.items fraction_of) in
    let lr : c.args.from + c.loop-j.j < length c.args.row.now = let l = c.requires.long in omega arith in
    let ev : fraction_of c.index.result.now ≡ get_or vs c.loop-j.j (fraction_of c.index.result.now) =
    ap fraction_of c.index.ensures ∙ sym (get_or-map fraction_of c.args.values.now.items c.loop-j.j c.index.result.now (fraction_of c.index.result.now) lt) in
    let fe : FitsSigned w128 c.entry.result = search rules in
    let next = rw c.entry.ensures at (simp to_z-of_z at c.in_ok-sum.ensures) in
    sum_goes_on (fraction_of c.loop-j.sum) (fraction_of c.in_ok-sum.sum) c.args.row.now vs c.args.from c.loop-j.j (fraction_of c.index.result.now) _ lr lv ev c.loop-j.invariant next

pub returns-in_err-sum : goal.returns-in_err-sum
returns-in_err-sum c =
    let vs = map fraction_of c.args.values.now.items in
    let lt : c.loop-j.j < length c.args.values.now.items = omega arith in
    let lv : c.loop-j.j < length vs = omega (arith, length-map c.args.values.now.items fraction_of) in
    let lr : c.args.from + c.loop-j.j < length c.args.row.now = let l = c.requires.long in omega arith in
    let ev : fraction_of c.index.result.now ≡ get_or vs c.loop-j.j (fraction_of c.index.result.now) =
    ap fraction_of c.index.ensures ∙ sym (get_or-map fraction_of c.args.values.now.items c.loop-j.j c.index.result.now (fraction_of c.index.result.now) lt) in
    let fe : FitsSigned w128 c.entry.result = search rules in
    let none = rw c.entry.ensures at (simp to_z-of_z at c.in_err-sum.ensures) in
    rw (err_from_is_err_and c.from_residual.result c.from_residual.ensures.1).1 (sum_stops (fraction_of c.loop-j.sum) c.args.row.now vs c.args.from c.loop-j.j (fraction_of c.index.result.now) _ lr lv ev c.loop-j.invariant none)

pub returns : goal.returns
returns c =
    let vs = map fraction_of c.args.values.now.items in
    let le : length vs ≤ c.loop-j.j = omega (arith, length-map c.args.values.now.items fraction_of) in
    sum_ends (fraction_of c.loop-j.sum) c.args.row.now vs (c.args.from + c.loop-j.j) c.loop-j.j _ le c.loop-j.invariant
