use Rattle.std.proofs.Common.{◌≡◌, ◌∙◌, ◌<◌, ℕ, List, Some, length, slice_get, inl, inr, refl, ap, sym, subst, arith}
use Rattle.std.proofs.lemmas.Bool.{cases_eq}
use Rattle.std.proofs.lemmas.List.{length-map}
use Rattle.cti_terms.specs.Spell.{tree_of}
use Rattle.cti_terms.specs.Tree.{Tree, Variable}
use Rattle.termination_model.proofs.Lists.{at_place, mapped_place}
use Rattle.number_columns.specs.Links.{node_of}
use Rattle.number_columns.specs.Meeting.{IsMet}
use Rattle.number_columns.proofs.numeric.meet_atom.Goals as goal

pub loop-i-preserved : goal.loop-i-preserved
loop-i-preserved c =
    let i = c.loop-i.i in
    let inv = c.loop-i.invariant in
    let items = c.as_slice-args.result.now in
    let t = tree_of c.index-args-i.result in
    let q = c.args.atom.now.pred.0 in
    let ps = c.meet.new.links.parents.items in
    let first = c.meet.new.first in
    let at : slice_get c.args.atom.now.args i ≡ Some t = ap (λ (ts : List Tree). slice_get ts i) (sym c.as_slice-args.ensures) ∙ mapped_place tree_of items i c.index-args-i.result (at_place items i c.index-args-i.result (omega arith) c.index-args-i.is) in
    record {
      ready = c.meet.ensures.ready;
      count = c.meet.ensures.count ∙ inv.count;
      variables = c.meet.ensures.variables ∙ inv.variables;
      meeting = λ ar k start place there h. c.meet.ensures.meeting ar k start (inv.meeting ar k start place there h) (λ x is. record {
        pred = q;
        place = i;
        few = omega (arith, c.requires.few, ap length c.as_slice-args.ensures, length-map items tree_of);
        stands = record { atom = c.args.atom.now; place = place; there = there; pred = refl; argument = at ∙ ap Some is };
        node = c.node_of.ensures;
      });
      keeps = λ x n m. c.meet.ensures.keeps x n (inv.keeps x n m);
      met = λ j x lt here. elim (cases_eq j i) [
        | inl same ↦ (
            let is : t ≡ Variable x = (let e : Some t ≡ Some (Variable x) = sym at ∙ ap (slice_get c.args.atom.now.args) (sym same) ∙ here in cc) in
            subst (λ (n : ℕ). IsMet ps first x n) (c.node_of.ensures ∙ ap (node_of q) (sym same)) (c.meet.ensures.met x is)
            )
        | inr ne ↦ c.meet.ensures.keeps x (node_of q j) (inv.met j x (omega (arith, lt, ne)) here)
      ];
    }
