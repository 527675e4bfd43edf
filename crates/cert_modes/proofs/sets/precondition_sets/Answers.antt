use Rattle.std.proofs.Common.{◌≡◌, ◌∙◌, ◌<◌, ℕ, List, length, slice_get, Some, ap, sym, subst, arith}
use Rattle.termination_model.proofs.Lists.{at_place}
use Rattle.bool_diagrams.proofs.CallerLemmas.{keeps_twice}
use Rattle.bool_diagrams.specs.declared.cube.Cell.{Cell}
use Rattle.bool_diagrams.specs.declared.diagram.Diagram.{Diagram}
use Rattle.cert_structure.specs.Shape.{arity_in, items_of}
use Rattle.cert_modes.specs.Sets.{AreSpelled}
use Rattle.cert_modes.proofs.PlaceLaws.{items_at, pushed, pushed_length}
use Rattle.cert_modes.proofs.SpellLaws.{arity_at, spelled_later}
use Rattle.cert_modes.proofs.sets.precondition_sets.Goals as goal

pub loop-q-preserved : goal.loop-q-preserved
loop-q-preserved c =
    let i = c.loop-q.invariant in
    let q = c.loop-q.q in
    let p = c.args.p.now in
    let cubes = c.args.cubes.now in
    let now = c.mapping_sets.new.table in
    let own = c.in_ok-own.own in
    let lt : q < length c.args.p.now.preds = omega (arith, c.loop-q-test.true, c.preds-q-end.ensures.count, c.loop-q.auto.q-end) in
    let wide = arity_at p q c.pred.result.now c.pred.ensures in
    let of_q = c.as_slice.ensures ∙ sym (items_at cubes q c.index-cubes-q.result (at_place cubes q c.index-cubes-q.result (omega (arith, c.requires.each, lt)) c.index-cubes-q.is)) in
    let one = subst (λ (w : ℕ). AreSpelled now w (items_of cubes q) own) (sym wide) (subst (λ (cs : List (List (List Cell))). AreSpelled now c.pred.result.now.arity cs own) of_q c.in_ok-own.ensures.rows) in
    record {
      keeps = keeps_twice _ _ _ i.keeps c.mapping_sets.ensures.keeps;
      count = omega (arith, ap length c.in_ok-push.ensures.ok, pushed_length c.loop-q.sets own, i.count);
      rows = subst (λ (xs : List (List Diagram)). (r : ℕ) (ds : List Diagram) → slice_get xs r ≡ Some ds → AreSpelled now (arity_in p r) (items_of cubes r) ds) (sym c.in_ok-push.ensures.ok)
          (pushed (λ (r : ℕ) (ds : List Diagram). AreSpelled now (arity_in p r) (items_of cubes r) ds) c.loop-q.sets own
          (λ r ds e. spelled_later c.loop-q.table now c.mapping_sets.ensures.keeps (arity_in p r) (items_of cubes r) ds (i.rows r ds e))
          (subst (λ (n : ℕ). AreSpelled now (arity_in p n) (items_of cubes n) own) (sym i.count) one));
    }
