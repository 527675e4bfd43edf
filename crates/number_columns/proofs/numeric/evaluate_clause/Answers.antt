use Rattle.std.proofs.Common.{◌≡◌, ◌∙◌, ◌<◌, ℕ, List, Some, length, slice_get, inl, inr, sym, ap, subst, arith}
use Rattle.std.proofs.lemmas.Bool.{cases_eq}
use Rattle.cti_terms.specs.Arithmetic.{kind_of}
use Rattle.cti_terms.specs.declared.atom_list.Atom.{Atom}
use Rattle.termination_model.proofs.Lists.{at_place}
use Rattle.number_columns.specs.Meeting.{AreEvaluated}
use Rattle.number_columns.proofs.numeric.evaluate_clause.Goals as goal

pub loop-i-preserved : goal.loop-i-preserved
loop-i-preserved c =
    let i = c.loop-i.i in
    let inv = c.loop-i.invariant in
    let b = c.index-body-i.result in
    let ar = c.args.p.now.arithmetic in
    let body = c.args.clause.now.body in
    let first = c.args.first.now in
    let ps = c.evaluate_if_builtin.new.links.parents.items in
    let more = c.evaluate_if_builtin.ensures in
    let at : slice_get body i ≡ Some b = ap (λ (bs : List Atom). slice_get bs i) (sym c.as_slice-body.ensures) ∙ at_place c.as_slice-body.result.now i b (omega arith) c.index-body-i.is in
    record {
      ready = more.ready;
      count = more.count ∙ inv.count;
      keeps = λ f r. inv.keeps f (more.keeps f r);
      meeting = λ start h. more.meeting c.args.clause.now start i at (inv.meeting start h);
      evaluated = λ place a kind lt there is. elim (cases_eq place i) [
        | inl same ↦ (
            let here : b ≡ a = (let e : Some b ≡ Some a = sym at ∙ ap (slice_get body) (sym same) ∙ there in cc) in
            subst (λ (z : Atom). AreEvaluated ar.names ps first (length first) z.args) here (more.evaluated kind (ap (λ (z : Atom). kind_of ar z.pred.0) here ∙ is))
            )
        | inr ne ↦ (λ x n argument term l m t e f r. inv.evaluated place a kind (omega (arith, lt, ne)) there is x n argument term l m t e f (more.keeps f r))
      ];
    }

pub returns-clause-evaluated : goal.returns-clause-evaluated
returns-clause-evaluated c = λ place a kind lt. c.loop-i.invariant.evaluated place a kind (omega (arith, lt, ap length c.as_slice-body.ensures))
