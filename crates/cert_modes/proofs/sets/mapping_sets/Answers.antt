use Rattle.std.proofs.Common.{◌≡◌, ◌∙◌, ℕ, List, length, slice_get, Some, ap, sym, subst, arith}
use Rattle.termination_model.proofs.Lists.{at_place}
use Rattle.bool_diagrams.proofs.CallerLemmas.{keeps_twice}
use Rattle.bool_diagrams.specs.Cubes.{covered}
use Rattle.bool_diagrams.specs.declared.diagram.Diagram.{Diagram}
use Rattle.cert_structure.specs.Shape.{items_of}
use Rattle.cert_modes.specs.Sets.{HasRows}
use Rattle.cert_modes.proofs.PlaceLaws.{items_at, pushed, pushed_length}
use Rattle.cert_modes.proofs.SpellLaws.{has_later}
use Rattle.cert_modes.proofs.sets.mapping_sets.Goals as goal

pub loop-own-preserved : goal.loop-own-preserved
loop-own-preserved c =
    let i = c.loop-own.invariant in
    let n = c.loop-own.own-index in
    let cubes = c.args.cubes.now in
    let now = c.cube_rows.new.table in
    let set = c.in_ok-set.set in
    let own = c.as_slice.ensures ∙ sym (items_at cubes n c.own-item.result (at_place cubes n c.own-item.result c.loop-own-test.true c.own-item.is)) in
    let one : HasRows c.cube_rows.new.table c.args.width (covered (items_of c.args.cubes.now n)) c.in_ok-set.set = record {
      known = c.in_ok-set.ensures.known;
      reads = c.in_ok-set.ensures.reads;
      rows = λ row long. c.in_ok-set.ensures.rows row long ∙ ap (λ cs. covered cs row) own;
    } in
    record {
      keeps = keeps_twice _ _ _ i.keeps c.cube_rows.ensures.keeps;
      count = omega (arith, ap length c.in_ok-push.ensures.ok, pushed_length c.loop-own.sets set, i.count);
      rows = subst (λ (xs : List Diagram). (r : ℕ) (d : Diagram) → slice_get xs r ≡ Some d → HasRows now c.args.width (covered (items_of cubes r)) d) (sym c.in_ok-push.ensures.ok)
          (pushed (λ (r : ℕ) (d : Diagram). HasRows now c.args.width (covered (items_of cubes r)) d) c.loop-own.sets set
          (λ r d e. has_later c.loop-own.table now c.cube_rows.ensures.keeps c.args.width (covered (items_of cubes r)) d (i.rows r d e))
          (subst (λ (m : ℕ). HasRows now c.args.width (covered (items_of cubes m)) set) (sym i.count) one));
    }
