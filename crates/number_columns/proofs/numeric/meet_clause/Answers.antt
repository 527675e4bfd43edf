use Rattle.std.proofs.Common.{◌≡◌, ◌∙◌, ◌∷◌, ◌<◌, ◌+◌, ℕ, suc, List, Some, IsTrue, length, slice_get, inl, inr, refl, sym, ap, subst, arith}
use Rattle.std.proofs.lemmas.Bool.{cases_eq}
use Rattle.std.specs.List.{AllByRecursion}
use Rattle.cti_terms.specs.Tree.{is_below}
use Rattle.cti_terms.specs.declared.atom_list.Atom.{Atom}
use Rattle.termination_model.proofs.Lists.{at_place, by_places}
use Rattle.number_columns.specs.Links.{node_of}
use Rattle.number_columns.specs.Meeting.{AreMet, IsRoomy}
use Rattle.number_columns.proofs.numeric.meet_clause.Goals as goal

pub loop-i-init : goal.loop-i-init
loop-i-init c =
    let k = c.args.clause.now in
    let ps = c.meet_atom.new.links.parents.items in
    let first = c.meet_atom.new.first in
    record {
      ready = c.meet_atom.ensures.ready;
      count = c.meet_atom.ensures.count;
      variables = c.meet_atom.ensures.variables;
      meeting = λ ar start h. c.meet_atom.ensures.meeting ar k start 0 refl h;
      met = λ place a lt there.
          let zero : place ≡ 0 = omega (arith, lt) in
          let e : Some k.head ≡ Some a = sym (ap (slice_get (k.head ∷ k.body)) zero) ∙ there in
          let here : k.head ≡ a = cc in
          subst (λ (z : Atom). AreMet ps first z.pred.0 (length z.args) z.args) here c.meet_atom.ensures.met;
    }

pub meet_atom-requires-in-loop-i-clause-below : goal.meet_atom-requires-in-loop-i-clause-below
meet_atom-requires-in-loop-i-clause-below c =
    let i = c.loop-i.i in
    let b = c.index-body-i.result in
    let at : slice_get c.args.clause.now.body i ≡ Some b = ap (λ (bs : List Atom). slice_get bs i) (sym c.as_slice-body.ensures) ∙ at_place c.as_slice-body.result.now i b (omega arith) c.index-body-i.is in
    let roomy : IsRoomy (length c.args.links.now.parents.items) (length c.args.first.now) b = by_places (IsRoomy (length c.args.links.now.parents.items) (length c.args.first.now)) c.args.clause.now.body c.requires.body i b at in
    subst (λ (v : ℕ). AllByRecursion (λ t. IsTrue (is_below v t)) b.args) (sym c.loop-i.invariant.variables) roomy.below

pub loop-i-preserved : goal.loop-i-preserved
loop-i-preserved c =
    let k = c.args.clause.now in
    let i = c.loop-i.i in
    let inv = c.loop-i.invariant in
    let b = c.index-body-i.result in
    let ps = c.meet_atom-in-loop-i.new.links.parents.items in
    let first = c.meet_atom-in-loop-i.new.first in
    let more = c.meet_atom-in-loop-i.ensures in
    let at : slice_get (k.head ∷ k.body) (suc i) ≡ Some b = ap (λ (bs : List Atom). slice_get bs i) (sym c.as_slice-body.ensures) ∙ at_place c.as_slice-body.result.now i b (omega arith) c.index-body-i.is in
    record {
      ready = more.ready;
      count = more.count ∙ inv.count;
      variables = more.variables ∙ inv.variables;
      meeting = λ ar start h. more.meeting ar k start (suc i) at (inv.meeting ar start h);
      met = λ place a lt there. elim (cases_eq place (suc i)) [
        | inl same ↦ (
            let here : b ≡ a = (let e : Some b ≡ Some a = sym at ∙ ap (slice_get (k.head ∷ k.body)) (sym same) ∙ there in cc) in
            subst (λ (z : Atom). AreMet ps first z.pred.0 (length z.args) z.args) here more.met
            )
        | inr ne ↦ (λ j x l here. more.keeps x (node_of a.pred.0 j) (inv.met place a (omega (arith, lt, ne)) there j x l here))
      ];
    }
