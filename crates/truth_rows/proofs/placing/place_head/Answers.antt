use Rattle.std.proofs.Common.{◌≡◌, ◌+◌, ◌&&◌, ℕ, Bool, IsTrue, List, inl, inr, length, slice_get, Some, sym, ap, ◌∙◌, arith}
use Rattle.std.proofs.lemmas.Bool.{and_parts}
use Rattle.std.proofs.lemmas.List.{length-map}
use Rattle.bool_diagrams.specs.Rows.{holds, iff}
use Rattle.bool_diagrams.proofs.CallerLemmas.{keeps_twice}
use Rattle.cti_terms.specs.Spell.{tree_of}
use Rattle.cti_terms.specs.Tree.{Tree, is_below, nodes_of}
use Rattle.truth_rows.specs.Ends.{IsPlacedOrTold}
use Rattle.truth_rows.proofs.ArgumentLaws.{number_at}
use Rattle.truth_rows.proofs.EndLaws.{placed_more}
use Rattle.truth_rows.proofs.ListLaws.{up_to_more}
use Rattle.termination_model.proofs.Lists.{at_place, by_places, mapped_place, place_below, sum_part}
use Rattle.truth_rows.proofs.RowLaws.{both, iff_same, iff_true}
use Rattle.truth_rows.proofs.placing.place_head.Goals as goal

pub bound_rows-requires-clause-below : goal.bound_rows-requires-clause-below
bound_rows-requires-clause-below g c =
    let items = c.as_slice-argument-items.result.now in
    let n = c.loop-place.place in
    let at : slice_get c.args.arguments.now n ≡ Some (tree_of c.argument-item.result) =
    ap (λ (ts : List Tree). slice_get ts n) (sym c.as_slice-argument-items.ensures) ∙ mapped_place tree_of items n c.argument-item.result (at_place items n c.argument-item.result c.loop-place-test.true c.argument-item.is) in
    by_places (λ t. IsTrue (is_below c.args.vars t)) c.args.arguments.now c.requires.below n (tree_of c.argument-item.result) at

pub bound_rows-requires-clause-small : goal.bound_rows-requires-clause-small
bound_rows-requires-clause-small g c =
    let items = c.as_slice-argument-items.result.now in
    let n = c.loop-place.place in
    let at : slice_get c.args.arguments.now n ≡ Some (tree_of c.argument-item.result) =
    ap (λ (ts : List Tree). slice_get ts n) (sym c.as_slice-argument-items.ensures) ∙ mapped_place tree_of items n c.argument-item.result (at_place items n c.argument-item.result c.loop-place-test.true c.argument-item.is) in
    omega (arith, c.requires.small, sum_part nodes_of c.args.arguments.now n (tree_of c.argument-item.result) at)

pub put_off-requires-clause-small : goal.put_off-requires-clause-small
put_off-requires-clause-small g c =
    let items = c.as_slice-argument-items.result.now in
    let n = c.loop-place.place in
    let at : slice_get c.args.arguments.now n ≡ Some (tree_of c.argument-item.result) =
    ap (λ (ts : List Tree). slice_get ts n) (sym c.as_slice-argument-items.ensures) ∙ mapped_place tree_of items n c.argument-item.result (at_place items n c.argument-item.result c.loop-place-test.true c.argument-item.is) in
    omega (arith, c.requires.small, sum_part nodes_of c.args.arguments.now n (tree_of c.argument-item.result) at)

pub loop-place-preserved-then-not-is_placed_early : goal.loop-place-preserved-then-not-is_placed_early
loop-place-preserved-then-not-is_placed_early g c =
    let items = c.as_slice-argument-items.result.now in
    let n = c.loop-place.place in
    let at : slice_get c.args.arguments.now n ≡ Some (tree_of c.argument-item.result) =
    ap (λ (ts : List Tree). slice_get ts n) (sym c.as_slice-argument-items.ensures) ∙ mapped_place tree_of items n c.argument-item.result (at_place items n c.argument-item.result c.loop-place-test.true c.argument-item.is) in
    let t = tree_of c.argument-item.result in
    let truth = g.N.Norm.truth c.args.norm.now in
    let ts = c.args.arguments.now in
    let i = c.loop-place.invariant in
    let ends = c.put_off.new.ends in
    record {
      keeps = i.keeps;
      known = i.known;
      each = c.put_off.ensures.each ∙ i.each;
      more = λ n x asked. c.put_off.ensures.more n x (i.more n x asked);
      all = λ row h. i.all row (λ j u l e. h j u (omega arith) e);
      some = λ row h.
          up_to_more (λ (j : ℕ) (u : Tree). IsPlacedOrTold truth ends c.args.end row j u) ts n t at
          (λ j u lt e. placed_more truth c.loop-place.ends ends c.args.end row j u c.put_off.ensures.more (i.some row h j u lt e))
          (inr c.put_off.ensures.told);
    }

pub loop-place-preserved : goal.loop-place-preserved
loop-place-preserved g c =
    let items = c.as_slice-argument-items.result.now in
    let n = c.loop-place.place in
    let at : slice_get c.args.arguments.now n ≡ Some (tree_of c.argument-item.result) =
    ap (λ (ts : List Tree). slice_get ts n) (sym c.as_slice-argument-items.ensures) ∙ mapped_place tree_of items n c.argument-item.result (at_place items n c.argument-item.result c.loop-place-test.true c.argument-item.is) in
    let t = tree_of c.argument-item.result in
    let truth = g.N.Norm.truth c.args.norm.now in
    let ts = c.args.arguments.now in
    let i = c.loop-place.invariant in
    let lt = place_below ts n t at in
    let p = number_at 48 12 n (omega (arith, c.requires.narrow)) in
    let is : (v : ℕ → Bool) → holds c.bound_rows.new.table c.in_ok-rows.rows v ≡ (holds c.loop-place.table c.loop-place.rows v && iff (v (48 + n)) (truth v t)) =
    λ v. c.in_ok-rows.ensures.rows v ∙ (λ k. holds c.loop-place.table c.loop-place.rows v && iff (v (p k)) (truth v t)) in
    record {
      keeps = keeps_twice _ _ _ i.keeps c.bound_rows.ensures.keeps;
      known = c.in_ok-rows.ensures.known;
      each = i.each;
      more = i.more;
      all = λ row h. is row ∙ both (holds c.loop-place.table c.loop-place.rows row) (iff (row (48 + n)) (truth row t)) (i.all row (λ j u l e. h j u (omega arith) e)) (iff_true (row (48 + n)) (truth row t) (h n t (omega arith) at));
      some = λ row h.
          let parts = and_parts (holds c.loop-place.table c.loop-place.rows row) (iff (row (48 + n)) (truth row t)) (sym (is row) ∙ h) in
          up_to_more (λ (j : ℕ) (u : Tree). IsPlacedOrTold truth c.loop-place.ends c.args.end row j u) ts n t at (i.some row parts.0) (inl (iff_same (row (48 + n)) (truth row t) parts.1));
    }

pub returns-clause-some : goal.returns-clause-some
returns-clause-some g c = λ row h j t at.
    let lt = place_below c.args.arguments.now j t at in
    c.loop-place.invariant.some row h j t (omega (arith, lt, c.loop-place-test.false, length-map c.as_slice-argument-items.result.now tree_of, ap length c.as_slice-argument-items.ensures)) at
