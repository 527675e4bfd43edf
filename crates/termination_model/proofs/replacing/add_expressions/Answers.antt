use Rattle.std.proofs.Common.{rules, ◌≡◌, ℕ, subst, take, ◌∷◌, ◌++◌, [], IsTrue, List, ℤ, map, slice_get, Some, sym, ap, ◌∙◌, arith}
use Rattle.std.specs.Int.{w128}
use Rattle.std.specs.Prelude.{FitsSigned}
use Rattle.std.proofs.lemmas.Int.{to_z-of_z}
use Rattle.cti_terms.specs.Spell.{tree_of}
use Rattle.cti_terms.specs.Tree.{Tree, is_below, nodes_of}
use Rattle.linear_rows.specs.Plain.{HaveWidth, plain_row, plain_rows}
use Rattle.linear_rows.specs.declared.row.Rows.{Rows}
use Rattle.termination_model.proofs.Lists.{at_place, by_places, mapped_place, sum_part, map_push, mapped_more}
use Rattle.termination_model.proofs.replacing.add_expressions.Goals as goal

-- the width stays
wide_again : (a b : Rows) (n : ℕ) → a.width ≡ n → (HaveWidth a.width a.list → HaveWidth b.width b.list) → b.width ≡ a.width → HaveWidth n a.list → HaveWidth n b.list
wide_again a b n same rows width wide =
    subst (λ (k : ℕ). HaveWidth k b.list) (width ∙ same) (rows (subst (λ (k : ℕ). HaveWidth k a.list) (sym same) wide))

pub size_expr-requires-clause-below : goal.size_expr-requires-clause-below
size_expr-requires-clause-below g c =
    let items = c.as_slice-argument-items.result.now in
    let at : slice_get c.args.arguments.now c.loop-argument.argument-index ≡ Some (tree_of c.argument-item.result) =
    ap (λ (ts : List Tree). slice_get ts c.loop-argument.argument-index) (sym c.as_slice-argument-items.ensures) ∙ mapped_place tree_of items c.loop-argument.argument-index c.argument-item.result (at_place items c.loop-argument.argument-index c.argument-item.result c.loop-argument-test.true c.argument-item.is) in
    by_places (λ t. IsTrue (is_below c.args.rows.now.width t)) c.args.arguments.now c.requires.below c.loop-argument.argument-index (tree_of c.argument-item.result) at

pub size_expr-requires-clause-small : goal.size_expr-requires-clause-small
size_expr-requires-clause-small g c =
    let items = c.as_slice-argument-items.result.now in
    let at : slice_get c.args.arguments.now c.loop-argument.argument-index ≡ Some (tree_of c.argument-item.result) =
    ap (λ (ts : List Tree). slice_get ts c.loop-argument.argument-index) (sym c.as_slice-argument-items.ensures) ∙ mapped_place tree_of items c.loop-argument.argument-index c.argument-item.result (at_place items c.loop-argument.argument-index c.argument-item.result c.loop-argument-test.true c.argument-item.is) in
    omega (arith, c.requires.small, sum_part nodes_of c.args.arguments.now c.loop-argument.argument-index (tree_of c.argument-item.result) at)

pub loop-argument-preserved : goal.loop-argument-preserved
loop-argument-preserved g c =
    let items = c.as_slice-argument-items.result.now in
    let at : slice_get c.args.arguments.now c.loop-argument.argument-index ≡ Some (tree_of c.argument-item.result) =
    ap (λ (ts : List Tree). slice_get ts c.loop-argument.argument-index) (sym c.as_slice-argument-items.ensures) ∙ mapped_place tree_of items c.loop-argument.argument-index c.argument-item.result (at_place items c.loop-argument.argument-index c.argument-item.result c.loop-argument-test.true c.argument-item.is) in
    let i = c.loop-argument.invariant in
    let expression = g.N.Norm.expression c.args.norm.now c.args.rows.now.width in
    let coeffs : c.from_vec.result ≡ c.in_ok-size.size.coeffs = c.from_vec.ensures ∙ c.into_vec.ensures in
    let is : (c.in_ok-size.size.constant ∷ c.from_vec.result) ≡ expression (tree_of c.argument-item.result) = ap (λ (s : List ℤ). c.in_ok-size.size.constant ∷ s) coeffs ∙ c.in_ok-size.ensures in
    let fs : FitsSigned w128 c.in_ok-size.size.constant = search rules in
    let pushed = simp to_z-of_z at c.in_ok-push.ensures.ok in
    record {
      width = c.push.ensures.width ∙ i.width;
      wide = wide_again _ _ _ i.width c.push.ensures.rows c.push.ensures.width i.wide;
      each =
          ap plain_rows pushed
          ∙ map_push plain_row c.loop-argument.rows.list _
          ∙ ap (λ (s : List (List ℤ)). s ++ (c.in_ok-size.size.constant ∷ c.from_vec.result) ∷ []) i.each
          ∙ ap (λ (s : List ℤ). (plain_rows c.args.rows.now.list ++ map expression (take c.loop-argument.argument-index c.args.arguments.now)) ++ s ∷ []) is
          ∙ mapped_more expression (plain_rows c.args.rows.now.list) c.args.arguments.now c.loop-argument.argument-index (tree_of c.argument-item.result) at;
    }
