use Rattle.std.proofs.Common.{◌≡◌, ◌≤◌, ◌+◌, ◌&&◌, ◌||◌, true, false, IsTrue, List, length, slice_get, Some, sym, ap, ◌∙◌, arith}
use Rattle.bool_diagrams.specs.Rows.{holds, iff}
use Rattle.bool_diagrams.specs.Tree.{with_value}
use Rattle.std.proofs.lemmas.List.{length-map}
use Rattle.bool_diagrams.proofs.CallerLemmas.{keeps_twice}
use Rattle.cti_terms.specs.Spell.{tree_of}
use Rattle.cti_terms.specs.Tree.{Tree, is_below, nodes_of}
use Rattle.termination_model.proofs.Lists.{at_place, by_places, mapped_place, place_below, sum_part}
use Rattle.truth_rows.proofs.ArgumentLaws.{mixed, argument_step, mixed_start, mixed_end, from_zero, number_at}
use Rattle.truth_rows.proofs.atoms.argument_rows.Goals as goal

pub loop-place-init : goal.loop-place-init
loop-place-init g c =
    let few : c.len-count.result ≤ 12 = omega (arith, c.len-count.ensures, c.requires.narrow) in
    record {
      keeps = c.rename.ensures.keeps;
      known = c.in_ok-rows.ensures.known;
      rows = λ row.
          c.in_ok-rows.ensures.rows row
          ∙ c.requires.reads _ (mixed (g.N.Norm.truth c.args.norm.now) c.args.arguments.now row 0) (λ v lt. ap row (from_zero c.len-count.result v (omega (arith, c.len-count.ensures)) few) ∙ mixed_start (g.N.Norm.size c.args.norm.now) (g.N.Norm.truth c.args.norm.now) (g.N.Norm.expression c.args.norm.now) (g.met.N.Norm.laws c.args.norm.now) c.args.arguments.now row v);
    }

pub bound_rows-requires-clause-below : goal.bound_rows-requires-clause-below
bound_rows-requires-clause-below g c =
    let items = c.as_slice-argument-items.result.now in
    let at : slice_get c.args.arguments.now c.loop-place.place ≡ Some (tree_of c.argument-item.result) =
    ap (λ (ts : List Tree). slice_get ts c.loop-place.place) (sym c.as_slice-argument-items.ensures) ∙ mapped_place tree_of items c.loop-place.place c.argument-item.result (at_place items c.loop-place.place c.argument-item.result c.loop-place-test.true c.argument-item.is) in
    by_places (λ t. IsTrue (is_below c.args.vars t)) c.args.arguments.now c.requires.below c.loop-place.place (tree_of c.argument-item.result) at

pub bound_rows-requires-clause-small : goal.bound_rows-requires-clause-small
bound_rows-requires-clause-small g c =
    let items = c.as_slice-argument-items.result.now in
    let at : slice_get c.args.arguments.now c.loop-place.place ≡ Some (tree_of c.argument-item.result) =
    ap (λ (ts : List Tree). slice_get ts c.loop-place.place) (sym c.as_slice-argument-items.ensures) ∙ mapped_place tree_of items c.loop-place.place c.argument-item.result (at_place items c.loop-place.place c.argument-item.result c.loop-place-test.true c.argument-item.is) in
    omega (arith, c.requires.small, sum_part nodes_of c.args.arguments.now c.loop-place.place (tree_of c.argument-item.result) at)

pub loop-place-preserved : goal.loop-place-preserved
loop-place-preserved g c =
    let items = c.as_slice-argument-items.result.now in
    let at : slice_get c.args.arguments.now c.loop-place.place ≡ Some (tree_of c.argument-item.result) =
    ap (λ (ts : List Tree). slice_get ts c.loop-place.place) (sym c.as_slice-argument-items.ensures) ∙ mapped_place tree_of items c.loop-place.place c.argument-item.result (at_place items c.loop-place.place c.argument-item.result c.loop-place-test.true c.argument-item.is) in
    let i = c.loop-place.invariant in
    let b = c.in_ok-bound.ensures.rows in
    let e = c.in_ok-rows-2.ensures.rows in
    record {
      keeps = keeps_twice _ _ _ i.keeps (keeps_twice _ _ _ c.bound_rows.ensures.keeps c.exists.ensures.keeps);
      known = c.in_ok-rows-2.ensures.known;
      rows = λ row.
          let lt = place_below c.args.arguments.now c.loop-place.place (tree_of c.argument-item.result) at in
          let p = number_at 48 12 c.loop-place.place (omega (arith, c.requires.narrow)) in
          e row
          ∙ (λ k. holds c.bound_rows.new.table c.in_ok-bound.bound (with_value row (p k) false) || holds c.bound_rows.new.table c.in_ok-bound.bound (with_value row (p k) true))
          ∙ argument_step (g.N.Norm.size c.args.norm.now) (g.N.Norm.truth c.args.norm.now) (g.N.Norm.expression c.args.norm.now) (g.met.N.Norm.laws c.args.norm.now) (holds c.args.table.now c.args.set) (holds c.bound_rows.new.table c.in_ok-bound.bound) c.args.vars c.args.arguments.now c.loop-place.place (tree_of c.argument-item.result) c.requires.few c.requires.below at c.requires.reads
          (λ r. b r ∙ (λ k. holds c.loop-place.table c.loop-place.rows r && iff (r (p k)) (g.N.Norm.truth c.args.norm.now r (tree_of c.argument-item.result))) ∙ ap (λ x. x && iff (r (48 + c.loop-place.place)) (g.N.Norm.truth c.args.norm.now r (tree_of c.argument-item.result))) (i.rows r))
          row;
    }

pub returns-clause-rows : goal.returns-clause-rows
returns-clause-rows g c = λ row.
    c.loop-place.invariant.rows row ∙ c.requires.reads _ _ (λ v lt. mixed_end (g.N.Norm.size c.args.norm.now) (g.N.Norm.truth c.args.norm.now) (g.N.Norm.expression c.args.norm.now) (g.met.N.Norm.laws c.args.norm.now) c.args.arguments.now row c.loop-place.place v (omega (arith, length-map c.as_slice-argument-items.result.now tree_of, ap length c.as_slice-argument-items.ensures)))
