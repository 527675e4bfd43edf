use Rattle.std.proofs.Common.{◌≡◌, ◌++◌, ℕ, ℤ, List, map, sym, subst, ap, ◌∙◌}
use Rattle.linear_rows.specs.Plain.{plain_rows}
use Rattle.linear_rows.specs.declared.row.Row.{Row}
use Rattle.termination_model.specs.sizes.Replacing.{AreColumns}
use Rattle.number_tests.specs.Targets.{AreFallColumns, joined}
use Rattle.number_tests.proofs.CallFacts.{if_ok_more}
use Rattle.number_tests.proofs.FallTargets.{joined_columns}
use Rattle.number_tests.proofs.falls.fall_columns.Goals as goal

pub returns : goal.returns
returns g c =
    let w = c.args.system.now.head.width in
    let e = g.N.Norm.expression c.args.norm.now in
    let args = c.args.call.now.args in
    let hs = plain_rows c.args.system.now.head.list in
    let made = c.new-sizes.ensures in
    let es : plain_rows c.add_expressions.new.rows.list ≡ map (e w) args =
    c.in_ok-add_expressions.ensures.each
    ∙ ap (λ (rs : List Row). plain_rows rs ++ map (e c.new-sizes.result.width) args) made.list
    ∙ ap (λ (k : ℕ). map (e k) args) made.width in
    let own : AreColumns (map (e w) args) w c.in_ok-own.own.items =
    subst (λ (k : ℕ). AreColumns (map (e w) args) k c.in_ok-own.own.items) (c.add_expressions.ensures.width ∙ made.width)
    (subst (λ (xs : List (List ℤ)). AreColumns xs c.add_expressions.new.rows.width c.in_ok-own.own.items) es c.in_ok-own.ensures) in
    let head : AreColumns hs w c.as_slice.result.now = subst (AreColumns hs w) (sym c.as_slice.ensures.value) c.in_ok-head.ensures in
    let call : AreColumns (map (e w) args) w c.as_slice-2.result.now = subst (AreColumns (map (e w) args) w) (sym c.as_slice-2.ensures.value) own in
    if_ok_more (λ cs. cs.items ≡ joined c.as_slice.result.now c.as_slice-2.result.now) (λ cs. AreFallColumns hs (map (e w) args) w cs.items)
    (λ cs same. subst (AreFallColumns hs (map (e w) args) w) (sym same) (joined_columns hs (map (e w) args) w c.as_slice.result.now c.as_slice-2.result.now head call)) c.join_columns.result c.join_columns.ensures
