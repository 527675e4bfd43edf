use Rattle.std.proofs.Common.{rules, ◌≡◌, ◌∷◌, ◌++◌, [], List, ℤ, map, slice_get, Some, sym, ap, ◌∙◌, take}
use Rattle.std.specs.Int.{w128}
use Rattle.std.specs.Prelude.{FitsSigned}
use Rattle.std.proofs.lemmas.Int.{to_z-of_z}
use Rattle.exact128.specs.Sums.{entry}
use Rattle.linear_rows.specs.Plain.{plain_row, plain_rows}
use Rattle.linear_rows.specs.declared.row.Row.{Row}
use Rattle.termination_model.specs.sizes.Replacing.{unit_at}
use Rattle.termination_model.proofs.Lists.{at_place, mapped_place, mapped_more}
use Rattle.termination_model.proofs.replacing.column.Goals as goal

pub loop-expression-preserved : goal.loop-expression-preserved
loop-expression-preserved c =
    let items = c.as_slice-expression-items.result.now in
    let n = c.loop-expression.expression-index in
    let at : slice_get c.args.expressions.now.list n ≡ Some c.expression-item.result =
    ap (λ (rs : List Row). slice_get rs n) (sym c.as_slice-expression-items.ensures) ∙ at_place items n c.expression-item.result c.loop-expression-test.true c.expression-item.is in
    let there : slice_get (plain_rows c.args.expressions.now.list) n ≡ Some (plain_row c.expression-item.result) = mapped_place plain_row c.args.expressions.now.list n c.expression-item.result at in
    let fs : FitsSigned w128 c.number_at.result = search rules in
    let pushed = simp to_z-of_z at c.in_ok-push-2.ensures.ok in
    pushed
    ∙ ap (λ (s : List ℤ). s ++ c.number_at.result ∷ []) c.loop-expression.invariant
    ∙ ap (λ (z : ℤ). (unit_at c.args.x ∷ map (λ e. entry e c.args.x) (take n (plain_rows c.args.expressions.now.list))) ++ z ∷ []) c.number_at.ensures
    ∙ mapped_more (λ (e : List ℤ). entry e c.args.x) (unit_at c.args.x ∷ []) (plain_rows c.args.expressions.now.list) n (plain_row c.expression-item.result) there
