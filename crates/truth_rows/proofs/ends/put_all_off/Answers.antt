use Rattle.std.proofs.Common.{◌≡◌, ℕ, IsTrue, List, length, slice_get, Some, sym, ap, ◌∙◌, arith}
use Rattle.std.proofs.lemmas.List.{length-map}
use Rattle.cti_terms.specs.Spell.{tree_of}
use Rattle.cti_terms.specs.Tree.{Tree, is_below, nodes_of}
use Rattle.truth_rows.specs.Ends.{IsTold}
use Rattle.truth_rows.proofs.EndLaws.{told_more}
use Rattle.truth_rows.proofs.ListLaws.{up_to_more}
use Rattle.termination_model.proofs.Lists.{at_place, by_places, from_places, mapped_place, place_below, sum_part}
use Rattle.truth_rows.proofs.ends.put_all_off.Goals as goal

pub put_off-requires-clause-below : goal.put_off-requires-clause-below
put_off-requires-clause-below g c =
    let items = c.as_slice-t-items.result.now in
    let at : slice_get c.args.terms.now c.loop-t.t-index ≡ Some (tree_of c.t-item.result) =
    ap (λ (ts : List Tree). slice_get ts c.loop-t.t-index) (sym c.as_slice-t-items.ensures) ∙ mapped_place tree_of items c.loop-t.t-index c.t-item.result (at_place items c.loop-t.t-index c.t-item.result c.loop-t-test.true c.t-item.is) in
    by_places (λ t. IsTrue (is_below c.args.vars t)) c.args.terms.now c.requires.below c.loop-t.t-index (tree_of c.t-item.result) at

pub put_off-requires-clause-small : goal.put_off-requires-clause-small
put_off-requires-clause-small g c =
    let items = c.as_slice-t-items.result.now in
    let at : slice_get c.args.terms.now c.loop-t.t-index ≡ Some (tree_of c.t-item.result) =
    ap (λ (ts : List Tree). slice_get ts c.loop-t.t-index) (sym c.as_slice-t-items.ensures) ∙ mapped_place tree_of items c.loop-t.t-index c.t-item.result (at_place items c.loop-t.t-index c.t-item.result c.loop-t-test.true c.t-item.is) in
    omega (arith, c.requires.small, sum_part nodes_of c.args.terms.now c.loop-t.t-index (tree_of c.t-item.result) at)

pub loop-t-preserved : goal.loop-t-preserved
loop-t-preserved g c =
    let items = c.as_slice-t-items.result.now in
    let truth = g.N.Norm.truth c.args.norm.now in
    let at : slice_get c.args.terms.now c.loop-t.t-index ≡ Some (tree_of c.t-item.result) =
    ap (λ (ts : List Tree). slice_get ts c.loop-t.t-index) (sym c.as_slice-t-items.ensures) ∙ mapped_place tree_of items c.loop-t.t-index c.t-item.result (at_place items c.loop-t.t-index c.t-item.result c.loop-t-test.true c.t-item.is) in
    let i = c.loop-t.invariant in
    record {
      each = c.put_off.ensures.each ∙ i.each;
      more = λ n y asked. c.put_off.ensures.more n y (i.more n y asked);
      told = λ n less.
          up_to_more (λ (j : ℕ) (u : Tree). IsTold truth c.put_off.new.ends n u) c.args.terms.now c.loop-t.t-index (tree_of c.t-item.result) at
          (λ j u lt e. told_more truth c.loop-t.ends c.put_off.new.ends n u (c.put_off.ensures.more n) (i.told n less j u lt e)) (c.put_off.ensures.told n less);
    }

pub returns-clause-told : goal.returns-clause-told
returns-clause-told g c = λ n less.
    from_places (IsTold (g.N.Norm.truth c.args.norm.now) c.loop-t.ends n) c.args.terms.now (λ j u at.
    let lt = place_below c.args.terms.now j u at in
    c.loop-t.invariant.told n less j u (omega (arith, lt, c.loop-t-test.false, length-map c.as_slice-t-items.result.now tree_of, ap length c.as_slice-t-items.ensures)) at)
