use Rattle.std.proofs.Common.{◌≡◌, ◌∙◌, ◌<◌, ℕ, List, length, slice_get, Some, ap, sym, subst, arith}
use Rattle.termination_model.proofs.Lists.{at_place}
use Rattle.bool_diagrams.proofs.CallerLemmas.{keeps_twice}
use Rattle.bool_diagrams.specs.Rows.{ReadsBelow}
use Rattle.bool_diagrams.specs.declared.diagram.Diagram.{Diagram}
use Rattle.cert_structure.specs.Shape.{arity_in, items_of}
use Rattle.cert_modes.specs.Sets.{HasRows, upward}
use Rattle.cert_modes.proofs.PlaceLaws.{items_at, pushed, pushed_length}
use Rattle.cert_modes.proofs.SpellLaws.{arity_at, arity_few, has_later, upward_later}
use Rattle.truth_rows.proofs.CallerLemmas.{reads_later}
use Rattle.bool_diagrams.proofs.CallerLemmas.{known_later}
use Rattle.cert_modes.proofs.sets.allowed_sets.Goals as goal

pub upward_union-requires-clause-known : goal.upward_union-requires-clause-known
upward_union-requires-clause-known c = λ m d e.
    let q = c.loop-q.q in
    let sets = c.args.sets.now in
    let lt : q < length c.args.p.now.preds = omega (arith, c.loop-q-test.true, c.preds-q-end.ensures.count, c.loop-q.auto.q-end) in
    let own = c.as_slice.ensures ∙ sym (items_at sets q c.index-sets-q.result (at_place sets q c.index-sets-q.result (omega (arith, c.requires.sets.each, lt)) c.index-sets-q.is)) in
    known_later c.args.table.now c.loop-q.table d c.loop-q.invariant.keeps (c.requires.sets.known q m d (ap (λ (xs : List Diagram). slice_get xs m) (sym own) ∙ e))

pub upward_union-requires-clause-reads : goal.upward_union-requires-clause-reads
upward_union-requires-clause-reads c = λ m d e.
    let q = c.loop-q.q in
    let sets = c.args.sets.now in
    let lt : q < length c.args.p.now.preds = omega (arith, c.loop-q-test.true, c.preds-q-end.ensures.count, c.loop-q.auto.q-end) in
    let own = c.as_slice.ensures ∙ sym (items_at sets q c.index-sets-q.result (at_place sets q c.index-sets-q.result (omega (arith, c.requires.sets.each, lt)) c.index-sets-q.is)) in
    let at = ap (λ (xs : List Diagram). slice_get xs m) (sym own) ∙ e in
    reads_later c.args.table.now c.loop-q.table c.loop-q.invariant.keeps d (c.requires.sets.known q m d at) c.pred.result.now.arity
    (subst (ReadsBelow c.args.table.now d) (arity_at c.args.p.now q c.pred.result.now c.pred.ensures) (c.requires.sets.reads q m d at))

pub upward_union-requires-clause-narrow : goal.upward_union-requires-clause-narrow
upward_union-requires-clause-narrow c = omega (arith, arity_few c.args.p.now c.preds-q-end.ensures.sound c.loop-q.q c.pred.result.now c.pred.ensures)

pub loop-q-preserved : goal.loop-q-preserved
loop-q-preserved c =
    let i = c.loop-q.invariant in
    let q = c.loop-q.q in
    let p = c.args.p.now in
    let sets = c.args.sets.now in
    let old = c.args.table.now in
    let now = c.upward_union.new.table in
    let union = c.in_ok-union.union in
    let lt : q < length c.args.p.now.preds = omega (arith, c.loop-q-test.true, c.preds-q-end.ensures.count, c.loop-q.auto.q-end) in
    let wide = arity_at p q c.pred.result.now c.pred.ensures in
    let own = c.as_slice.ensures ∙ sym (items_at sets q c.index-sets-q.result (at_place sets q c.index-sets-q.result (omega (arith, c.requires.sets.each, lt)) c.index-sets-q.is)) in
    let one : HasRows c.upward_union.new.table (arity_in c.args.p.now q) (upward c.args.table.now (items_of c.args.sets.now q)) c.in_ok-union.union = record {
      known = c.in_ok-union.ensures.known;
      reads = subst (ReadsBelow now union) (sym wide) c.in_ok-union.ensures.reads;
      rows = λ row long. c.in_ok-union.ensures.rows row (long ∙ wide) ∙ ap (λ ds. upward c.loop-q.table ds row) own ∙ upward_later old c.loop-q.table i.keeps (items_of sets q) (c.requires.sets.known q) row;
    } in
    record {
      keeps = keeps_twice _ _ _ i.keeps c.upward_union.ensures.keeps;
      count = omega (arith, ap length c.in_ok-push.ensures.items, pushed_length c.loop-q.allowed.items union, i.count);
      rows = subst (λ (xs : List Diagram). (r : ℕ) (d : Diagram) → slice_get xs r ≡ Some d → HasRows now (arity_in p r) (upward old (items_of sets r)) d) (sym c.in_ok-push.ensures.items)
          (pushed (λ (r : ℕ) (d : Diagram). HasRows now (arity_in p r) (upward old (items_of sets r)) d) c.loop-q.allowed.items union
          (λ r d e. has_later c.loop-q.table now c.upward_union.ensures.keeps (arity_in p r) (upward old (items_of sets r)) d (i.rows r d e))
          (subst (λ (n : ℕ). HasRows now (arity_in p n) (upward old (items_of sets n)) union) (sym i.count) one));
    }
