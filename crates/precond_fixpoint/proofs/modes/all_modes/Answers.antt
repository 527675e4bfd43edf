use Rattle.std.proofs.Common.{◌≡◌, ◌≤◌, ℕ, List, length, map, slice_get, slice_index_or, Some, ap, sym, subst, ◌∙◌, arith}
use Rattle.bool_diagrams.specs.Cubes.{truth_rows}
use Rattle.cti_terms.specs.declared.predicates.Pred.{Pred}
use Rattle.precond_fixpoint.specs.Solving.{arguments_of}
use Rattle.precond_fixpoint.specs.declared.mode.Mode.{Mode}
use Rattle.precond_fixpoint.proofs.FamilyLaws.{has_arity}
use Rattle.precond_fixpoint.proofs.ModeLaws.{modes_same}
use Rattle.precond_fixpoint.proofs.PlaceLaws.{items_at, some_at}
use Rattle.precond_fixpoint.proofs.StartLaws.{pushed, pushed_length}
use Rattle.termination_model.specs.grounds.Modes.{modes}
use Rattle.truth_rows.proofs.CallerLemmas.{family_at}
use Rattle.termination_model.proofs.Lists.{by_places, one_element, place_below, there}
use Rattle.truth_rows.proofs.SetLaws.{none}
use Rattle.truth_rows.specs.Sets.{family_of}
use Rattle.precond_fixpoint.proofs.modes.all_modes.Goals as goal

pub modes_among-requires-clause-reads : goal.modes_among-requires-clause-reads
modes_among-requires-clause-reads c =
    let q = c.loop-q.q in
    let x = c.pred.result.now in
    let lt = place_below c.args.p.now.preds q x c.pred.ensures in
    let at = there c.args.sets.now q none (omega (arith, c.requires.sets.each, lt)) in
    c.requires.sets.reads q x.arity (slice_index_or c.args.sets.now q none) at (has_arity c.args.p.now.preds q x c.pred.ensures)

pub modes_among-requires-clause-narrow : goal.modes_among-requires-clause-narrow
modes_among-requires-clause-narrow c = by_places (λ (x : Pred). x.arity ≤ 12) c.args.p.now.preds c.requires.program.arities c.loop-q.q c.pred.result.now c.pred.ensures

pub add_tables-requires-clause-narrow : goal.add_tables-requires-clause-narrow
add_tables-requires-clause-narrow c = by_places (λ (x : Pred). x.arity ≤ 12) c.args.p.now.preds c.requires.program.arities c.loop-q.q c.pred.result.now c.pred.ensures

pub modes_among-requires-clause-lists : goal.modes_among-requires-clause-lists
modes_among-requires-clause-lists c =
    let tables = c.add_tables.new.tables.items in
    let at = there tables c.pred.result.now.arity c.index.result.now c.in_ok-add_tables.ensures.there in
    c.as_slice-lists.ensures ∙ c.index.ensures ∙ c.in_ok-add_tables.ensures.tables c.pred.result.now.arity (slice_index_or tables c.pred.result.now.arity c.index.result.now) at

pub loop-q-preserved : goal.loop-q-preserved
loop-q-preserved c =
    let i = c.loop-q.invariant in
    let q = c.loop-q.q in
    let x = c.pred.result.now in
    let preds = c.args.p.now.preds in
    let T = c.args.table.now in
    let sets = c.args.sets.now in
    let list = c.loop-q.list in
    let new = c.in_ok-own.own in
    let d = slice_index_or sets q none in
    let lt = place_below preds q x c.pred.ensures in
    let at = there sets q none (omega (arith, c.requires.sets.each, lt)) in
    let one = c.in_ok-own.ensures ∙ modes_same x.arity (truth_rows T d) (family_of preds T sets q) (λ row long. sym (family_at preds T sets q x d row c.pred.ensures at (sym long))) in
    record {
      count = omega (arith, ap length c.in_ok-push.ensures.ok, pushed_length list new, i.count);
      tables = c.in_ok-add_tables.ensures.tables;
      minimal = subst (λ (xs : List (List Mode)). (r : ℕ) (own : List Mode) → slice_get xs r ≡ Some own → (y : Pred) → slice_get preds r ≡ Some y → map arguments_of own ≡ modes y.arity (family_of preds T sets r)) (sym c.in_ok-push.ensures.ok)
          (pushed (λ (r : ℕ) (own : List Mode). (y : Pred) → slice_get preds r ≡ Some y → map arguments_of own ≡ modes y.arity (family_of preds T sets r)) list new i.minimal
          (λ y e.
          let f : slice_get preds q ≡ Some y = ap (slice_get preds) (sym i.count) ∙ e in
          let same = one_element preds q x y c.pred.ensures f in
          subst (λ (z : Pred). map arguments_of new ≡ modes z.arity (family_of preds T sets (length list))) same
          (subst (λ (r : ℕ). map arguments_of new ≡ modes x.arity (family_of preds T sets r)) (sym i.count) one)));
    }

pub returns : goal.returns
returns c =
    let i = c.loop-q.invariant in
    let each : length c.loop-q.list ≡ length c.args.p.now.preds = omega (arith, i.count, c.loop-q-test.false, c.preds-q-end.ensures.count, c.loop-q.auto.q-end) in
    record {
      each = each;
      minimal = λ q x e.
          let lt = place_below c.args.p.now.preds q x e in
          let own = some_at c.loop-q.list q (omega arith) in
          ap (map arguments_of) (items_at c.loop-q.list q own.0 own.1) ∙ i.minimal q own.0 own.1 x e;
    }
