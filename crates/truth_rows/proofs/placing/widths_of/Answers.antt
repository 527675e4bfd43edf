use Rattle.std.proofs.Common.{◌≡◌, List, IsTrue, slice_get, Some, sym, ap, ◌∙◌, arith}
use Rattle.cti_terms.specs.Spell.{tree_of}
use Rattle.cti_terms.specs.Tree.{Tree, is_below, nodes_of}
use Rattle.termination_model.proofs.Lists.{at_place, by_places, mapped_place, sum_part}
use Rattle.truth_rows.proofs.placing.widths_of.Goals as goal

pub width_of-requires-clause-below : goal.width_of-requires-clause-below
width_of-requires-clause-below g c =
    let items = c.as_slice-argument-items.result.now in
    let n = c.loop-place.place in
    let at : slice_get c.args.arguments.now n ≡ Some (tree_of c.argument-item.result) =
    ap (λ (ts : List Tree). slice_get ts n) (sym c.as_slice-argument-items.ensures) ∙ mapped_place tree_of items n c.argument-item.result (at_place items n c.argument-item.result c.loop-place-test.true c.argument-item.is) in
    by_places (λ t. IsTrue (is_below c.args.vars t)) c.args.arguments.now c.requires.below n (tree_of c.argument-item.result) at

pub width_of-requires-clause-small : goal.width_of-requires-clause-small
width_of-requires-clause-small g c =
    let items = c.as_slice-argument-items.result.now in
    let n = c.loop-place.place in
    let at : slice_get c.args.arguments.now n ≡ Some (tree_of c.argument-item.result) =
    ap (λ (ts : List Tree). slice_get ts n) (sym c.as_slice-argument-items.ensures) ∙ mapped_place tree_of items n c.argument-item.result (at_place items n c.argument-item.result c.loop-place-test.true c.argument-item.is) in
    omega (arith, c.requires.small, sum_part nodes_of c.args.arguments.now n (tree_of c.argument-item.result) at)
