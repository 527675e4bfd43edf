use Rattle.std.proofs.Common.{◌∙◌, List, sym, subst, take}
use Rattle.cti_terms.specs.declared.predicates.Pred.{Pred}
use Rattle.termination_model.proofs.Lists.{taken_more}
use Rattle.numeric_model.specs.States.{AreStarts}
use Rattle.numeric_model.proofs.Starts.{added_more}
use Rattle.numeric_model.proofs.state.State.add_values.Goals as goal

pub loop-q-preserved : goal.loop-q-preserved
loop-q-preserved g c =
    let p = c.pred.result.now in
    let preds = c.args.p.now.preds in
    let width = g.D.Domain.width in
    let listed = g.D.Domain.listed in
    let s = c.add_value.new.self in
    let all = added_more width listed (take c.loop-q.q preds) p c.loop-q.self s c.loop-q.invariant.starts c.in_ok-add_value.ensures.added in
    record {
      starts = subst (λ (ps : List Pred). AreStarts width listed ps s.sizes.rows s.values.items) (sym (taken_more preds c.loop-q.q p c.pred.ensures)) all;
      proofs = c.in_ok-add_value.ensures.proofs ∙ c.loop-q.invariant.proofs;
      steps = c.in_ok-add_value.ensures.steps ∙ c.loop-q.invariant.steps;
    }
