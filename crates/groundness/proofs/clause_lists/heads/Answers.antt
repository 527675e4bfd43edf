use Rattle.std.proofs.Common.{◌≡◌, ◌+◌, ◌-◌, ◌<◌, inl, inr, ℕ, List, length, slice_get, Some, sym, subst, ap, ◌∙◌, arith}
use Rattle.std.proofs.lemmas.Bool.{cases_eq}
use Rattle.std.proofs.lemmas.List.{length-replicate, length-set}
use Rattle.cti_terms.specs.declared.clauses.Clause.{Clause}
use Rattle.cti_terms.specs.declared.predicates.Pred.{Pred}
use Rattle.termination_model.proofs.Lists.{place_below}
use Rattle.truth_rows.proofs.SetLaws.{some_is}
use Rattle.groundness.specs.Marks.{HasUser}
use Rattle.groundness.proofs.UserLaws.{no_users, user_added, user_more, user_only}
use Rattle.groundness.proofs.clause_lists.heads.Goals as goal

pub loop-k-init : goal.loop-k-init
loop-k-init c =
    let is = c.in_ok-lists.ensures in
    record {
      each = ap length is ∙ length-replicate c.preds.result _ ∙ c.preds.ensures.count;
      within = λ q j h. absurd (no_users c.preds.result q j (subst (λ (xs : List (List ℕ)). HasUser xs q j) is h));
      all = λ j k le at. absurd (omega (arith, place_below c.args.p.now.clauses j k at));
    }

pub loop-k-preserved : goal.loop-k-preserved
loop-k-preserved c =
    let p = c.args.p.now in
    let n = c.loop-k.k in
    let i = c.loop-k.invariant in
    let clause = c.clause.result.now in
    let head = clause.head in
    let lists = c.loop-k.lists in
    let is = c.in_ok-push.ensures.ok in
    let s = some_is (λ (q : Pred). q.arity ≡ length head.args) (slice_get p.preds head.pred.0) c.clause.ensures.sound.head.arity in
    let lt : head.pred.0 < length lists = omega (arith, place_below p.preds head.pred.0 s.0 s.1, i.each) in
    let place : c.clauses-count.result - 1 - n + 1 - 1 ≡ c.clauses-count.result - 1 - n = omega arith in
    let there : slice_get p.clauses (c.clauses-count.result - 1 - n) ≡ Some clause = ap (slice_get p.clauses) (sym place) ∙ c.clause.ensures.there in
    record {
      each = ap length is ∙ length-set lists head.pred.0 _ ∙ i.each;
      within = λ q j h. elim (user_only lists head.pred.0 _ lt q j (subst (λ (xs : List (List ℕ)). HasUser xs q j) is h)) [
        | inl before ↦ i.within q j before
        | inr now ↦ omega (arith, c.loop-k-test.true, c.clauses-count.ensures.count)
      ];
      all = λ j k le at. elim (cases_eq j (c.clauses-count.result - 1 - n)) [
        | inl same ↦
            let at' : slice_get p.clauses (c.clauses-count.result - 1 - n) ≡ Some k = ap (slice_get p.clauses) (sym same) ∙ at in
            let own : clause ≡ k = cc in
            subst (λ (y : Clause). HasUser c.push.new.self y.head.pred.0 j) own
            (subst (λ (xs : List (List ℕ)). HasUser xs head.pred.0 j) (sym is) (subst (HasUser _ head.pred.0) (sym same) (user_added lists head.pred.0 (c.clauses-count.result - 1 - n) lt)))
        | inr other ↦
            subst (λ (xs : List (List ℕ)). HasUser xs k.head.pred.0 j) (sym is)
            (user_more lists head.pred.0 (c.clauses-count.result - 1 - n) lt k.head.pred.0 j (i.all j k (omega (arith, c.clauses-count.ensures.count)) at))
      ];
    }

pub returns : goal.returns
returns c =
    let i = c.loop-k.invariant in
    record {
      within = i.within;
      all = λ j k at. i.all j k (omega (arith, c.loop-k-test.false, c.clauses-count.ensures.count, c.loop-k.auto.k-end)) at;
    }
