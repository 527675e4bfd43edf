use Rattle.std.proofs.Common.{◌≡◌, ◌≤◌, ◌<◌, ℕ, List, length, slice_get, Some, arith, ap, refl, subst, sym, ◌∙◌}
use Rattle.std.proofs.lemmas.List.{length_push}
use Rattle.std.proofs.lemmas.Option.{slice_get_read}
use Rattle.bool_diagrams.proofs.CallerLemmas.{keeps_twice}
use Rattle.bool_diagrams.specs.declared.diagram.Diagram.{Diagram}
use Rattle.cti_terms.specs.declared.predicates.Pred.{Pred}
use Rattle.termination_model.proofs.Lists.{place_below}
use Rattle.moved_diagrams.specs.Moved.{AreMovedOwn, IsMovedList}
use Rattle.moved_diagrams.proofs.Moves.{at_more, own_later}
use Rattle.moved_diagrams.proofs.moving.moved_lists.Goals as goal

pub loop-q-preserved : goal.loop-q-preserved
loop-q-preserved c =
    let i = c.loop-q.invariant in
    let q = c.loop-q.q in
    let preds = c.args.p.now.preds in
    let trees = c.args.table.now in
    let lists = c.args.lists.now in
    let into = c.moved_own.new.into in
    let first = c.pred.result.now in
    let lt = place_below preds q first c.pred.ensures in
    let at_q : slice_get lists q ≡ Some c.index-lists-q.result = slice_get_read lists (length lists) q c.index-lists-q.result refl (omega (arith, c.requires.lists.each, lt)) c.index-lists-q.is in
    let new = c.in_ok-own.own in
    let k = c.in_ok-own.ensures.keeps in
    let items = c.in_ok-push.ensures.ok in
    let here : IsMovedList preds trees lists into q new =
    λ x sets px ls.
    let ex = c.pred.ensures in
    let xe : first ≡ x = cc in
    let se : c.index-lists-q.result ≡ sets = cc in
    subst (λ (y : Pred). AreMovedOwn y.arity trees sets into new) xe (subst (λ (w : List Diagram). AreMovedOwn first.arity trees w into new) (c.as_slice.ensures ∙ se) c.in_ok-own.ensures.moved) in
    let one = subst (λ n. IsMovedList preds trees lists into n new) (sym i.each) here in
    record {
      keeps = keeps_twice c.args.into.now c.loop-q.into into i.keeps k;
      each = omega (arith, i.each, ap length items, length_push c.loop-q.all new);
      own = λ r e at.
          at_more (λ n w. IsMovedList preds trees lists into n w) c.loop-q.all new (λ n w old x sets px ls. own_later x.arity trees sets c.loop-q.into into w k (i.own n w old x sets px ls)) one r e
          (sym (ap (λ (xs : List (List Diagram)). slice_get xs r) items) ∙ at);
    }
