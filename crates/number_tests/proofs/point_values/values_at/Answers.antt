use Rattle.std.proofs.Common.{rules, ◌≡◌, ◌∷◌, ◌++◌, [], ℕ, ℤ, List, take, length, slice_get, Some, sym, subst, ap, ◌∙◌, arith, below_more, FitsSigned}
use Rattle.std.specs.Int.{w128}
use Rattle.std.proofs.lemmas.Int.{to_z-of_z}
use Rattle.std.proofs.lemmas.List.{length-map}
use Rattle.std.proofs.Math.Seq.{take-length}
use Rattle.exact128.specs.Sums.{dot}
use Rattle.linear_rows.specs.Plain.{plain_row, plain_rows}
use Rattle.linear_rows.specs.declared.row.Row.{Row}
use Rattle.termination_model.proofs.Lists.{at_place, by_places, from_places, mapped_more, mapped_place, one_element, place_below}
use Rattle.number_tests.specs.Refuting.{ValueFits, numbers_of, values_of}
use Rattle.number_tests.proofs.point_values.values_at.Goals as goal

pub returns-in_default : goal.returns-in_default
returns-in_default c =
    let items = c.as_slice-size-items.result.now in
    let n = c.loop-size.size-index in
    let row = plain_row c.size-item.result in
    let es = plain_rows c.args.sizes.now.list in
    let point = c.args.point.now in
    let at : slice_get c.args.sizes.now.list n ≡ Some c.size-item.result = ap (λ (rs : List Row). slice_get rs n) (sym c.as_slice-size-items.ensures) ∙ at_place items n c.size-item.result c.loop-size-test.true c.size-item.is in
    let there : slice_get es n ≡ Some row = mapped_place plain_row c.args.sizes.now.list n c.size-item.result at in
    λ all. c.in_default.ensures (by_places (ValueFits point) es all n row there)

pub loop-size-preserved : goal.loop-size-preserved
loop-size-preserved c =
    let items = c.as_slice-size-items.result.now in
    let n = c.loop-size.size-index in
    let row = plain_row c.size-item.result in
    let es = plain_rows c.args.sizes.now.list in
    let point = c.args.point.now in
    let at : slice_get c.args.sizes.now.list n ≡ Some c.size-item.result = ap (λ (rs : List Row). slice_get rs n) (sym c.as_slice-size-items.ensures) ∙ at_place items n c.size-item.result c.loop-size-test.true c.size-item.is in
    let there : slice_get es n ≡ Some row = mapped_place plain_row c.args.sizes.now.list n c.size-item.result at in
    let f : List ℤ → ℤ = λ e. dot e (numbers_of point) in
    let fv : FitsSigned w128 c.in-Some.value = search rules in
    let value = c.in-Some.ensures in
    let pushed = simp to_z-of_z at c.in_ok-push-2.ensures.ok in
    record {
      values = pushed ∙ (λ i. c.loop-size.invariant.values i ++ value.1 i ∷ []) ∙ mapped_more f (point.t ∷ []) es n row there;
      fit = below_more (λ (i : ℕ). (e : List ℤ) → slice_get es i ≡ Some e → ValueFits point e) n c.loop-size.invariant.fit (λ e ee. subst (ValueFits point) (one_element es n row e there ee) value.0);
    }

pub returns : goal.returns
returns c =
    let es = plain_rows c.args.sizes.now.list in
    let point = c.args.point.now in
    let all : c.loop-size.size-index ≡ length es = omega (arith, ap length c.as_slice-size-items.ensures, length-map c.args.sizes.now.list plain_row) in (
      from_places (ValueFits point) es (λ i e ee. c.loop-size.invariant.fit i (omega (arith, all, place_below es i e ee)) e ee),
      c.loop-size.invariant.values ∙ ap (λ (k : ℕ). values_of (take k es) point) all ∙ ap (λ (xs : List (List ℤ)). values_of xs point) (take-length es),
    )
