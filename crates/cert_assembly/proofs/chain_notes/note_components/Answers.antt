use Rattle.std.proofs.Common.{◌∙◌, ◌+◌, ◌++◌, List, length, map, drop, ap, sym}
use Rattle.std.specs.List.{flat_map}
use Rattle.cert_structure.specs.Numbered.{facts_from}
use Rattle.numeric_model.specs.States.{plain_step}
use Rattle.numeric_model.specs.declared.step.Step.{Step}
use Rattle.termination_model.proofs.Lists.{at_place}
use Rattle.cert_assembly.specs.ChainNotes.{step_notes}
use Rattle.cert_assembly.proofs.NoteLaws.{added, facts_over}
use Rattle.cert_assembly.proofs.chain_notes.note_components.Goals as goal

pub loop-own-preserved : goal.loop-own-preserved
loop-own-preserved c =
    let f = step_notes c.args.p.now c.args.names.now in
    let steps = c.args.steps.now in
    let at = c.loop-own in
    let i = at.own-index in
    let own = c.own-item.result in
    let n = at.number in
    let here = at_place steps i own c.loop-own-test.true c.own-item.is in
    let notes = c.in_ok-number.ensures.notes ∙ ap (λ (ss : List Step). at.out ++ facts_from (n + 1) f (map plain_step ss)) c.as_slice.ensures in
    let number = c.in_ok-number.ensures.number ∙ ap (λ (ss : List Step). n + length ss) c.as_slice.ensures in
    let ahead = facts_over f plain_step steps n i own here
    ∙ ap (λ k. facts_from (n + 1) f (map plain_step own) ++ facts_from (k + 1) f (map plain_step (flat_map (λ (own : List Step). own) (drop (i + 1) steps)))) (sym number) in (
      added _ _ (facts_from (n + 1) f (map plain_step own)) _ _ _ notes ahead at.invariant.0,
      c.in_ok-number.ensures.noted,
    )
