use Rattle.std.proofs.Common.{◌≡◌, ℕ, IsTrue, List, length, slice_get, Some, sym, ap, ◌∙◌, arith}
use Rattle.std.proofs.lemmas.List.{length-map}
use Rattle.cti_terms.specs.Spell.{tree_of}
use Rattle.cti_terms.specs.Tree.{Tree, is_below, nodes_of}
use Rattle.truth_rows.specs.Ends.{IsTold}
use Rattle.truth_rows.proofs.EndLaws.{told_more}
use Rattle.truth_rows.proofs.ListLaws.{up_to_more}
use Rattle.termination_model.proofs.Lists.{at_place, by_places, mapped_place, place_below, sum_part}
use Rattle.truth_rows.proofs.head_rows.put_arguments_off.Goals as goal

pub put_off-requires-clause-below : goal.put_off-requires-clause-below
put_off-requires-clause-below g c =
    let items = c.as_slice-argument-items.result.now in
    let n = c.loop-place.place in
    let at : slice_get c.args.arguments.now n ≡ Some (tree_of c.argument-item.result) =
    ap (λ (ts : List Tree). slice_get ts n) (sym c.as_slice-argument-items.ensures) ∙ mapped_place tree_of items n c.argument-item.result (at_place items n c.argument-item.result c.loop-place-test.true c.argument-item.is) in
    by_places (λ t. IsTrue (is_below c.args.vars t)) c.args.arguments.now c.requires.below n (tree_of c.argument-item.result) at

pub put_off-requires-clause-small : goal.put_off-requires-clause-small
put_off-requires-clause-small g c =
    let items = c.as_slice-argument-items.result.now in
    let n = c.loop-place.place in
    let at : slice_get c.args.arguments.now n ≡ Some (tree_of c.argument-item.result) =
    ap (λ (ts : List Tree). slice_get ts n) (sym c.as_slice-argument-items.ensures) ∙ mapped_place tree_of items n c.argument-item.result (at_place items n c.argument-item.result c.loop-place-test.true c.argument-item.is) in
    omega (arith, c.requires.small, sum_part nodes_of c.args.arguments.now n (tree_of c.argument-item.result) at)

pub loop-place-preserved : goal.loop-place-preserved
loop-place-preserved g c =
    let items = c.as_slice-argument-items.result.now in
    let n = c.loop-place.place in
    let t = tree_of c.argument-item.result in
    let truth = g.N.Norm.truth c.args.norm.now in
    let at : slice_get c.args.arguments.now n ≡ Some t =
    ap (λ (ts : List Tree). slice_get ts n) (sym c.as_slice-argument-items.ensures) ∙ mapped_place tree_of items n c.argument-item.result (at_place items n c.argument-item.result c.loop-place-test.true c.argument-item.is) in
    let i = c.loop-place.invariant in
    record {
      each = c.put_off.ensures.each ∙ i.each;
      told = up_to_more (λ (j : ℕ) (u : Tree). IsTold truth c.put_off.new.ends j u) c.args.arguments.now n t at
          (λ j u lt e. told_more truth c.loop-place.ends c.put_off.new.ends j u (c.put_off.ensures.more j) (i.told j u lt e))
          (c.put_off.ensures.told n (omega arith));
    }

pub returns-clause-told : goal.returns-clause-told
returns-clause-told g c = λ j t at.
    let lt = place_below c.args.arguments.now j t at in
    c.loop-place.invariant.told j t (omega (arith, lt, c.loop-place-test.false, length-map c.as_slice-argument-items.result.now tree_of, ap length c.as_slice-argument-items.ensures)) at
