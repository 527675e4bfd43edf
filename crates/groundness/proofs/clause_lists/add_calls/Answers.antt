use Rattle.std.proofs.Common.{◌≡◌, ◌<◌, inl, inr, ℕ, List, length, slice_get, Some, sym, subst, ap, ◌∙◌, arith}
use Rattle.std.proofs.lemmas.List.{length-set}
use Rattle.cti_terms.specs.declared.atom_list.Atom.{Atom}
use Rattle.truth_rows.proofs.ListLaws.{up_to_more}
use Rattle.termination_model.proofs.Lists.{at_place, place_below}
use Rattle.groundness.specs.Marks.{HasUser}
use Rattle.groundness.proofs.UserLaws.{user_added, user_more, user_only}
use Rattle.groundness.proofs.clause_lists.add_calls.Goals as goal

pub push-requires : goal.push-requires
push-requires c =
    let n = c.loop-atom.atom-index in
    let b = c.atom-item.result in
    let at : slice_get c.args.body.now n ≡ Some b = ap (λ (bs : List Atom). slice_get bs n) (sym c.as_slice-atom-items.ensures) ∙ at_place c.as_slice-atom-items.result.now n b c.loop-atom-test.true c.atom-item.is in
    omega (arith, c.requires.there n b at, c.loop-atom.invariant.each)

pub loop-atom-preserved : goal.loop-atom-preserved
loop-atom-preserved c =
    let n = c.loop-atom.atom-index in
    let b = c.atom-item.result in
    let k = c.args.clause in
    let i = c.loop-atom.invariant in
    let lists = c.loop-atom.lists in
    let at : slice_get c.args.body.now n ≡ Some b = ap (λ (bs : List Atom). slice_get bs n) (sym c.as_slice-atom-items.ensures) ∙ at_place c.as_slice-atom-items.result.now n b c.loop-atom-test.true c.atom-item.is in
    let lt : b.pred.0 < length lists = omega (arith, c.requires.there n b at, i.each) in
    let is = c.in_ok-push.ensures.ok in
    record {
      each = ap length is ∙ length-set lists b.pred.0 _ ∙ i.each;
      more = λ q j h. subst (λ (xs : List (List ℕ)). HasUser xs q j) (sym is) (user_more lists b.pred.0 k lt q j (i.more q j h));
      only = λ q j h. elim (user_only lists b.pred.0 k lt q j (subst (λ (xs : List (List ℕ)). HasUser xs q j) is h)) [
        | inl before ↦ i.only q j before
        | inr now ↦ inr now
      ];
      added = up_to_more (λ (j : ℕ) (x : Atom). HasUser c.push.new.self x.pred.0 k) c.args.body.now n b at
          (λ j x l e. subst (λ (xs : List (List ℕ)). HasUser xs x.pred.0 k) (sym is) (user_more lists b.pred.0 k lt x.pred.0 k (i.added j x l e)))
          (subst (λ (xs : List (List ℕ)). HasUser xs b.pred.0 k) (sym is) (user_added lists b.pred.0 k lt));
    }

pub returns-clause-added : goal.returns-clause-added
returns-clause-added c = λ i b at.
    let lt = place_below c.args.body.now i b at in
    c.loop-atom.invariant.added i b (omega (arith, lt, c.loop-atom-test.false, ap length c.as_slice-atom-items.ensures)) at
