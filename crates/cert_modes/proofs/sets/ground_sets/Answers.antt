use Rattle.std.proofs.Common.{◌≡◌, ◌∙◌, ◌<◌, ℕ, List, length, slice_get, Some, ap, sym, subst, arith}
use Rattle.termination_model.proofs.Lists.{at_place}
use Rattle.bool_diagrams.proofs.CallerLemmas.{keeps_twice}
use Rattle.bool_diagrams.specs.Cubes.{covered}
use Rattle.bool_diagrams.specs.Rows.{ReadsBelow}
use Rattle.bool_diagrams.specs.declared.diagram.Diagram.{Diagram}
use Rattle.cert_structure.specs.Shape.{arity_in, items_of}
use Rattle.cert_modes.specs.Sets.{HasRows}
use Rattle.cert_modes.proofs.PlaceLaws.{items_at, pushed, pushed_length}
use Rattle.cert_modes.proofs.SpellLaws.{arity_at, has_later}
use Rattle.cert_modes.proofs.sets.ground_sets.Goals as goal

pub loop-q-preserved : goal.loop-q-preserved
loop-q-preserved c =
    let i = c.loop-q.invariant in
    let q = c.loop-q.q in
    let p = c.args.p.now in
    let cubes = c.args.cubes.now in
    let now = c.cube_rows.new.table in
    let set = c.in_ok-set.set in
    let lt : q < length c.args.p.now.preds = omega (arith, c.loop-q-test.true, c.preds-q-end.ensures.count, c.loop-q.auto.q-end) in
    let wide = arity_at p q c.pred.result.now c.pred.ensures in
    let own = c.as_slice.ensures ∙ sym (items_at cubes q c.index-cubes-q.result (at_place cubes q c.index-cubes-q.result (omega (arith, c.requires.each, lt)) c.index-cubes-q.is)) in
    let one : HasRows c.cube_rows.new.table (arity_in c.args.p.now q) (covered (items_of c.args.cubes.now q)) c.in_ok-set.set = record {
      known = c.in_ok-set.ensures.known;
      reads = subst (ReadsBelow now set) (sym wide) c.in_ok-set.ensures.reads;
      rows = λ row long. c.in_ok-set.ensures.rows row (long ∙ wide) ∙ ap (λ cs. covered cs row) own;
    } in
    record {
      keeps = keeps_twice _ _ _ i.keeps c.cube_rows.ensures.keeps;
      count = omega (arith, ap length c.in_ok-push.ensures.items, pushed_length c.loop-q.sets.items set, i.count);
      rows = subst (λ (xs : List Diagram). (r : ℕ) (d : Diagram) → slice_get xs r ≡ Some d → HasRows now (arity_in p r) (covered (items_of cubes r)) d) (sym c.in_ok-push.ensures.items)
          (pushed (λ (r : ℕ) (d : Diagram). HasRows now (arity_in p r) (covered (items_of cubes r)) d) c.loop-q.sets.items set
          (λ r d e. has_later c.loop-q.table now c.cube_rows.ensures.keeps (arity_in p r) (covered (items_of cubes r)) d (i.rows r d e))
          (subst (λ (n : ℕ). HasRows now (arity_in p n) (covered (items_of cubes n)) set) (sym i.count) one));
    }
