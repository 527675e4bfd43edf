use Rattle.std.proofs.Common.{◌≡◌, ◌∙◌, ◌<◌, sym, ap, arith, ℕ, List, length, slice_get, slice_set, Some}
use Rattle.std.proofs.lemmas.List.{length-set}
use Rattle.truth_rows.proofs.ListLaws.{up_to_more}
use Rattle.termination_model.proofs.Lists.{at_place, place_below}
use Rattle.call_components.proofs.Lists.{slice_get-set_same}
use Rattle.cti_terms.specs.declared.atom_list.Atom.{Atom}
use Rattle.cert_modes.specs.Sets.{set_at}
use Rattle.cert_modes.proofs.RuleLaws.{chosen_more, chosen_others}
use Rattle.cert_modes.proofs.choosing.choose.Goals as goal

pub loop-atom-preserved : goal.loop-atom-preserved
loop-atom-preserved c =
    let b = c.atom-item.result in
    let n = c.loop-atom.atom-index in
    let i = c.loop-atom.invariant in
    let chosen = c.loop-atom.chosen in
    let f = set_at c.args.sets.now.preconditions c.args.sets.now.none c.args.mapping in
    let at : slice_get c.args.clause.now.body n ≡ Some b = ap (λ (bs : List Atom). slice_get bs n) (sym c.as_slice-atom-items.ensures) ∙ at_place c.as_slice-atom-items.result.now n b c.loop-atom-test.true c.atom-item.is in
    let lt : b.pred.0 < length c.loop-atom.chosen = omega (arith, c.requires.body n b at, c.requires.each, i.each) in
    rw c.precondition-in-loop-atom.ensures
    (record {
      each = length-set chosen b.pred.0 (f b.pred.0) ∙ i.each;
      head = chosen_more chosen f b.pred.0 c.args.clause.now.head.pred.0 lt i.head;
      body = up_to_more (λ (j : ℕ) (x : Atom). slice_get (slice_set c.loop-atom.chosen b.pred.0 (f b.pred.0)) x.pred.0 ≡ Some (f x.pred.0)) c.args.clause.now.body n b at
          (λ j x l e. chosen_more chosen f b.pred.0 x.pred.0 lt (i.body j x l e)) (slice_get-set_same chosen b.pred.0 (f b.pred.0) lt);
      others = λ q. chosen_others chosen c.args.chosen.now f b.pred.0 q lt (i.others q);
    })

pub returns-clause-body : goal.returns-clause-body
returns-clause-body c = λ j b e. c.loop-atom.invariant.body j b (omega (arith, place_below c.args.clause.now.body j b e, c.loop-atom-test.false, ap length c.as_slice-atom-items.ensures)) e
