use Rattle.std.proofs.Common.{◌≡◌, ℕ, List, length, slice_get, Some, sym, ap, ◌∙◌, arith}
use Rattle.std.specs.List.{AllByRecursion}
use Rattle.cti_terms.specs.declared.atom_list.Atom.{Atom}
use Rattle.truth_rows.specs.Ends.{IsTold}
use Rattle.truth_rows.proofs.EndLaws.{all_told_more}
use Rattle.truth_rows.proofs.ListLaws.{up_to_more}
use Rattle.termination_model.proofs.Lists.{at_place, place_below}
use Rattle.truth_rows.proofs.ends.put_body_off.Goals as goal

pub loop-place-preserved : goal.loop-place-preserved
loop-place-preserved g c =
    let n = c.loop-place.place in
    let b = c.atom-item.result in
    let truth = g.N.Norm.truth c.args.norm.now in
    let at : slice_get c.args.body.now n ≡ Some b = ap (λ (bs : List Atom). slice_get bs n) (sym c.as_slice-atom-items.ensures) ∙ at_place c.as_slice-atom-items.result.now n b c.loop-place-test.true c.atom-item.is in
    let i = c.loop-place.invariant in
    record {
      each = c.put_all_off.ensures.each ∙ i.each;
      told = up_to_more (λ (j : ℕ) (x : Atom). AllByRecursion (IsTold truth c.put_all_off.new.ends j) x.args) c.args.body.now n b at
          (λ j x lt e. all_told_more truth c.loop-place.ends c.put_all_off.new.ends j x.args (c.put_all_off.ensures.more j) (i.told j x lt e))
          (c.put_all_off.ensures.told n (omega arith));
    }

pub returns-clause-told : goal.returns-clause-told
returns-clause-told g c = λ j b at.
    let lt = place_below c.args.body.now j b at in
    c.loop-place.invariant.told j b (omega (arith, lt, c.loop-place-test.false, ap length c.as_slice-atom-items.ensures)) at
