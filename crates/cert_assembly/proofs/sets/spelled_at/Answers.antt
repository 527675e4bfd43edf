use Rattle.std.proofs.Common.{◌≡◌, Some, List, map, slice_get, subst, sym, ap, ◌∙◌, ◌<◌, length, arith}
use Rattle.std.specs.Prelude.{IfOk}
use Rattle.bool_diagrams.specs.Cubes.{cubes, truth_rows}
use Rattle.bool_diagrams.specs.declared.cube.Cell.{Cell}
use Rattle.bool_diagrams.specs.declared.diagram.Diagram.{Diagram}
use Rattle.number_tests.specs.Levels.{items_of}
use Rattle.termination_model.proofs.Lists.{at_place}
use Rattle.cert_assembly.proofs.ModeLaws.{item_is}
use Rattle.cert_assembly.proofs.PlaceLaws.{arity_has}
use Rattle.cert_assembly.specs.Spelled.{spelled_each}
use Rattle.cert_assembly.proofs.sets.spelled_at.Goals as goal

pub spelled_each-requires-clause-known : goal.spelled_each-requires-clause-known
spelled_each-requires-clause-known c = λ m d e.
    let sets = c.args.sets.now in
    let q = c.args.q in
    let each = c.requires.sets.each in
    let less : q < length sets = omega (arith, each, c.requires.there) in
    let own : items_of sets q ≡ c.as_slice.result.now = item_is sets q c.index-sets-q.result (at_place sets q c.index-sets-q.result less c.index-sets-q.is) ∙ sym c.as_slice.ensures in
    c.requires.sets.known q m d (ap (λ (xs : List Diagram). slice_get xs m) own ∙ e)

pub spelled_each-requires-clause-reads : goal.spelled_each-requires-clause-reads
spelled_each-requires-clause-reads c = λ m d e.
    let sets = c.args.sets.now in
    let q = c.args.q in
    let each = c.requires.sets.each in
    let less : q < length sets = omega (arith, each, c.requires.there) in
    let own : items_of sets q ≡ c.as_slice.result.now = item_is sets q c.index-sets-q.result (at_place sets q c.index-sets-q.result less c.index-sets-q.is) ∙ sym c.as_slice.ensures in
    c.requires.sets.reads q m c.pred.result.now.arity d (ap (λ (xs : List Diagram). slice_get xs m) own ∙ e) (arity_has c.args.p.now.preds q c.pred.result.now c.pred.ensures)

pub returns : goal.returns
returns c =
    let sets = c.args.sets.now in
    let preds = c.args.p.now.preds in
    let t = c.args.table.now in
    let q = c.args.q in
    let x = c.pred.result.now in
    let each = c.requires.sets.each in
    let less : q < length sets = omega (arith, each, c.requires.there) in
    let own : items_of sets q ≡ c.as_slice.result.now = item_is sets q c.index-sets-q.result (at_place sets q c.index-sets-q.result less c.index-sets-q.is) ∙ sym c.as_slice.ensures in
    let same : map (λ d. cubes x.arity (truth_rows t d)) c.as_slice.result.now ≡ spelled_each preds t (slice_get preds q) (items_of sets q) =
    sym (ap (λ o. spelled_each preds t o (items_of sets q)) c.pred.ensures ∙ ap (spelled_each preds t (Some x)) own) in
    subst (λ (z : List (List (List Cell))). IfOk c.spelled_each.result (λ lists. lists ≡ z)) same c.spelled_each.ensures
