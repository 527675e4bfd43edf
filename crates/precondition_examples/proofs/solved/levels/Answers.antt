use Rattle.std.proofs.Common.{◌≡◌, ◌<◌, ℕ, Bool, List, if◌then◌else◌, length, slice_get, Some, ap, sym, subst, ◌∙◌, arith}
use Rattle.call_components.specs.Partition.{IsIn}
use Rattle.cti_terms.specs.declared.predicates.Pred.{Pred}
use Rattle.number_tests.specs.declared.level_part.LevelPart.{LevelPart}
use Rattle.precond_fixpoint.proofs.PlaceLaws.{items_at, items_there, some_at}
use Rattle.precond_fixpoint.proofs.StartLaws.{pushed, pushed_length}
use Rattle.termination_model.proofs.Lists.{one_element, place_below}
use Rattle.precondition_examples.proofs.solved.levels.Goals as goal

pub loop-q-preserved : goal.loop-q-preserved
loop-q-preserved c =
    let i = c.loop-q.invariant in
    let q = c.loop-q.q in
    let preds = c.args.p.now.preds in
    let comps = c.args.comps.now in
    let levels = c.loop-q.levels.items in
    let new = c.in_ok-own.own in
    record {
      count = omega (arith, ap length c.in_ok-push.ensures.items, pushed_length levels new, i.count);
      wide = subst (λ (xs : List (List LevelPart)). (r : ℕ) (own : List LevelPart) → slice_get xs r ≡ Some own → (m : ℕ) (x : Pred) (part : LevelPart) → slice_get preds r ≡ Some x → slice_get own m ≡ Some part → length part.coeffs ≡ x.arity)
          (sym c.in_ok-push.ensures.items)
          (pushed (λ (r : ℕ) (own : List LevelPart). (m : ℕ) (x : Pred) (part : LevelPart) → slice_get preds r ≡ Some x → slice_get own m ≡ Some part → length part.coeffs ≡ x.arity) levels new i.wide
          (λ m x part e f.
          let g : slice_get preds q ≡ Some x = ap (slice_get preds) (sym i.count) ∙ e in
          let same = one_element preds q c.pred.result.now x c.pred.ensures g in
          c.in_ok-own.ensures.wide m part f ∙ ap (λ (y : Pred). y.arity) same));
      each = subst (λ (xs : List (List LevelPart)). (r : ℕ) (own : List LevelPart) → slice_get xs r ≡ Some own → (d : ℕ) (recursive : Bool) → IsIn comps d r → slice_get comps.recursive d ≡ Some recursive
          → length own ≡ (if recursive then length c.args.mappings.now else 1)) (sym c.in_ok-push.ensures.items)
          (pushed (λ (r : ℕ) (own : List LevelPart). (d : ℕ) (recursive : Bool) → IsIn comps d r → slice_get comps.recursive d ≡ Some recursive → length own ≡ (if recursive then length c.args.mappings.now else 1)) levels new i.each
          (λ d recursive e f.
          let g : slice_get comps.of q ≡ Some d = ap (slice_get comps.of) (sym i.count) ∙ e in
          let here = one_element comps.of q c.of.result d c.of.ensures g in
          let h : slice_get comps.recursive c.of.result ≡ Some recursive = ap (slice_get comps.recursive) here ∙ f in
          let same = one_element comps.recursive c.of.result c.recursive-recursive.result recursive c.recursive-recursive.ensures h in
          c.in_ok-own.ensures.each ∙ ap (λ (b : Bool). if b then length c.args.mappings.now else 1) same));
    }

pub returns : goal.returns
returns c =
    let i = c.loop-q.invariant in
    let p = c.args.p.now in
    let comps = c.args.comps.now in
    let levels = c.loop-q.levels.items in
    let each : length c.loop-q.levels.items ≡ length c.args.p.now.preds = omega (arith, i.count, c.loop-q-test.false, c.preds-q-end.ensures.count, c.loop-q.auto.q-end) in
    record {
      parts = record {
        each = each;
        wide = λ q m x part e f.
            let own = some_at levels q (items_there levels q m part f) in
            i.wide q own.0 own.1 m x part e (ap (λ (xs : List LevelPart). slice_get xs m) (sym (items_at levels q own.0 own.1)) ∙ f);
      };
      together = λ d a b in_a in_b.
          let lt = c.requires.within d a in_a in
          let r = some_at comps.recursive d (omega (arith, c.requires.answers, lt)) in
          let at_a = place_below comps.of a d in_a in
          let at_b = place_below comps.of b d in_b in
          let x = some_at levels a (omega (arith, each, c.requires.each, at_a)) in
          let y = some_at levels b (omega (arith, each, c.requires.each, at_b)) in
          ap length (items_at levels a x.0 x.1) ∙ i.each a x.0 x.1 d r.0 in_a r.1 ∙ sym (i.each b y.0 y.1 d r.0 in_b r.1) ∙ sym (ap length (items_at levels b y.0 y.1));
    }
