use Rattle.std.proofs.Common.{◌≡◌, ◌≤◌, ◌<◌, ℕ, List, length, slice_get, slice_index_or, Some, IsSomeAnd, arith, ap, refl, subst, sym, ◌∙◌}
use Rattle.std.proofs.lemmas.List.{length_push}
use Rattle.bool_diagrams.proofs.CallerLemmas.{keeps_twice}
use Rattle.bool_diagrams.specs.declared.diagram.Diagram.{Diagram}
use Rattle.cti_terms.specs.declared.predicates.Pred.{Pred}
use Rattle.termination_model.proofs.Lists.{by_places, place_below, there}
use Rattle.truth_rows.proofs.SetLaws.{none}
use Rattle.moved_diagrams.specs.Moved.{IsMoved, IsMovedOf}
use Rattle.moved_diagrams.proofs.Moves.{at_more, moved_later}
use Rattle.moved_diagrams.proofs.moving.moved_sets.Goals as goal

pub moved-requires-clause-reads : goal.moved-requires-clause-reads
moved-requires-clause-reads c =
    let q = c.loop-q.q in
    let x = c.pred.result.now in
    let lt = place_below c.args.p.now.preds q x c.pred.ensures in
    let at = there c.args.sets.now q none (omega (arith, c.requires.sets.each, lt)) in
    c.requires.sets.reads q x.arity (slice_index_or c.args.sets.now q none) at (subst (λ o. IsSomeAnd o (λ (y : Pred). y.arity ≡ x.arity)) (sym c.pred.ensures) refl)

pub moved-requires-clause-narrow : goal.moved-requires-clause-narrow
moved-requires-clause-narrow c = (let few = by_places (λ (x : Pred). x.arity ≤ 12) c.args.p.now.preds c.preds-q-end.ensures.sound.arities c.loop-q.q c.pred.result.now c.pred.ensures in omega (arith, few))

pub loop-q-preserved : goal.loop-q-preserved
loop-q-preserved c =
    let i = c.loop-q.invariant in
    let q = c.loop-q.q in
    let preds = c.args.p.now.preds in
    let trees = c.args.table.now in
    let sets = c.args.sets.now in
    let into = c.moved.new.into in
    let first = c.pred.result.now in
    let lt = place_below preds q first c.pred.ensures in
    let was = slice_index_or sets q none in
    let set_at = there sets q none (omega (arith, c.requires.sets.each, lt)) in
    let new = c.in_ok-moved.field-0 in
    let k = c.in_ok-moved.ensures.keeps in
    let items = c.in_ok-push.ensures.items in
    let here : IsMovedOf preds trees sets into q new =
    λ x d px ds.
    let ex = c.pred.ensures in
    let xe : first ≡ x = cc in
    let de : was ≡ d = cc in
    subst (λ (y : Pred). IsMoved y.arity trees d into new) xe (subst (λ (w : Diagram). IsMoved first.arity trees w into new) de c.in_ok-moved.ensures.moved) in
    let one = subst (λ n. IsMovedOf preds trees sets into n new) (sym i.each) here in
    record {
      keeps = keeps_twice c.args.into.now c.loop-q.into into i.keeps k;
      each = omega (arith, c.in_ok-push.ensures.len, i.each, ap length items, length_push c.loop-q.all.items new);
      at = λ r e at.
          at_more (λ n w. IsMovedOf preds trees sets into n w) c.loop-q.all.items new (λ n w old x d px ds. moved_later x.arity trees d c.loop-q.into into w k (i.at n w old x d px ds)) one r e
          (sym (ap (λ (xs : List Diagram). slice_get xs r) items) ∙ at);
    }
