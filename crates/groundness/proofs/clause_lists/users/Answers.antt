use Rattle.std.proofs.Common.{◌≡◌, ◌+◌, ◌-◌, inl, inr, ℕ, List, length, slice_get, Some, sym, subst, ap, ◌∙◌, arith}
use Rattle.std.proofs.lemmas.Bool.{cases_eq}
use Rattle.std.proofs.lemmas.List.{length-replicate}
use Rattle.cti_terms.specs.declared.clauses.Clause.{Clause}
use Rattle.cti_terms.specs.declared.predicates.Pred.{Pred}
use Rattle.cti_terms.specs.Listing.{IsAtom}
use Rattle.termination_model.proofs.Lists.{by_places, place_below}
use Rattle.truth_rows.proofs.SetLaws.{some_is}
use Rattle.groundness.specs.Marks.{HasUser}
use Rattle.groundness.proofs.UserLaws.{no_users}
use Rattle.groundness.proofs.clause_lists.users.Goals as goal

pub loop-k-init : goal.loop-k-init
loop-k-init c =
    let n = length c.args.p.now.preds in
    let is = c.in_ok-lists.ensures in
    record {
      each = ap length is ∙ length-replicate c.preds.result _ ∙ c.preds.ensures.count;
      within = λ q j h. absurd (no_users c.preds.result q j (subst (λ (xs : List (List ℕ)). HasUser xs q j) is h));
      all = λ j c i b lt at e. absurd (omega arith);
    }

pub add_calls-requires : goal.add_calls-requires
add_calls-requires c = record {
  there = λ i b at.
      let p = c.args.p.now in
      let k = c.clause-clause.result.now in
      let a = by_places (IsAtom p.preds k.vars) k.body c.clause-clause.ensures.sound.body i b at in
      let s = some_is (λ (q : Pred). q.arity ≡ length b.args) (slice_get p.preds b.pred.0) a.arity in
      omega (arith, place_below p.preds b.pred.0 s.0 s.1, c.loop-k.invariant.each);
}

pub loop-k-preserved : goal.loop-k-preserved
loop-k-preserved c =
    let p = c.args.p.now in
    let n = c.loop-k.k in
    let clause = c.clause-clause.result.now in
    let i = c.loop-k.invariant in
    let e = c.in_ok-add_calls.ensures in
    let place : n + 1 - 1 ≡ n = omega arith in
    let there : slice_get p.clauses n ≡ Some clause = ap (slice_get p.clauses) (sym place) ∙ c.clause-clause.ensures.there in
    record {
      each = e.each ∙ i.each;
      within = λ q j h. elim (e.only q j h) [
        | inl before ↦ omega (arith, i.within q j before)
        | inr now ↦ omega arith
      ];
      all = λ j k m b lt at f. elim (cases_eq j n) [
        | inl same ↦
            let at' : slice_get p.clauses n ≡ Some k = ap (slice_get p.clauses) (sym same) ∙ at in
            let is : k ≡ clause = cc in
            subst (λ x. HasUser c.add_calls.new.lists b.pred.0 x) (sym same) (e.added m b (subst (λ (y : Clause). slice_get y.body m ≡ Some b) is f))
        | inr other ↦ e.more b.pred.0 j (i.all j k m b (omega arith) at f)
      ];
    }

pub returns : goal.returns
returns c =
    let i = c.loop-k.invariant in
    record {
      each = i.each;
      within = λ q j h. omega (arith, i.within q j h, c.loop-k.auto.k-end, c.clauses-k-end.ensures.count);
      all = λ j k m b at f. i.all j k m b (omega (arith, place_below c.args.p.now.clauses j k at, c.loop-k-test.false, c.clauses-k-end.ensures.count)) at f;
    }
