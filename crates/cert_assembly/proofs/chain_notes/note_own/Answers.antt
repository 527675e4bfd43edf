use Rattle.std.proofs.Common.{◌∙◌, ◌+◌, length, map, drop, ap, arith, length-append}
use Rattle.cert_structure.specs.Numbered.{facts_from}
use Rattle.numeric_model.specs.States.{plain_step}
use Rattle.termination_model.proofs.Lists.{at_place}
use Rattle.cert_assembly.specs.ChainNotes.{step_notes}
use Rattle.cert_assembly.proofs.NoteLaws.{added, facts_next, two_notes}
use Rattle.cert_assembly.proofs.chain_notes.note_own.Goals as goal

pub loop-step-preserved : goal.loop-step-preserved
loop-step-preserved c =
    let p = c.args.p.now in
    let names = c.args.names.now in
    let f = step_notes p names in
    let steps = c.args.steps.now in
    let at = c.loop-step in
    let i = at.step-index in
    let x = c.step-item.result in
    let n = at.number + 1 in
    let here = at_place steps i x c.loop-step-test.true c.step-item.is in
    let new = c.in_ok-note_step.ensures in
    let long = ap length new ∙ length-append at.out (f n (plain_step x)) in
    let two = two_notes p names n (plain_step x) in
    let was = at.invariant.2 in
    let before = at.invariant.1 in (
      added _ _ (f n (plain_step x)) (facts_from (n + 1) f (map plain_step (drop (i + 1) steps))) (facts_from n f (map plain_step (drop i steps))) _ new (facts_next f plain_step steps n i x here) at.invariant.0,
      omega arith,
      omega arith,
    )
