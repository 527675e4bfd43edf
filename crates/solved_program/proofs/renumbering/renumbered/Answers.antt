use Rattle.std.proofs.Common.{◌≡◌, ◌+◌, ◌++◌, ◌∷◌, [], arith, drop, map, subst, sym, slice_get, Some}
use Rattle.numeric_model.specs.States.{plain_step}
use Rattle.termination_model.proofs.Lists.{at_place}
use Rattle.solved_program.specs.Renumbered.{in_turn}
use Rattle.solved_program.proofs.Turns.{turn_done, turn_more}
use Rattle.solved_program.proofs.renumbering.renumbered.Goals as goal

pub loop-step-preserved : goal.loop-step-preserved
loop-step-preserved c =
    let steps = c.args.steps.now in
    let n = c.loop-step.step-index in
    let x = c.step-item.result in
    let at : slice_get steps n ≡ Some x = at_place steps n x c.loop-step-test.true c.step-item.is in
    record {
      within = c.next_place-place.ensures.within;
      rest = subst (λ xs. map plain_step xs ++ in_turn c.args.own.now c.next_place-place.result (map plain_step (drop (n + 1) steps)) ≡ in_turn c.args.own.now 0 (map plain_step steps)) (sym c.in_ok-push.ensures.ok)
          (subst (λ m. map plain_step (c.loop-step.copy ++ c.in_ok-next.next ∷ []) ++ in_turn c.args.own.now m (map plain_step (drop (n + 1) steps)) ≡ in_turn c.args.own.now 0 (map plain_step steps)) (sym c.next_place-place.ensures.next)
          (turn_more c.args.own.now c.loop-step.place c.loop-step.copy c.in_ok-next.next steps n x (in_turn c.args.own.now 0 (map plain_step steps)) at c.in_ok-next.ensures c.loop-step.invariant.rest));
    }

pub returns : goal.returns
returns c = turn_done c.args.own.now c.loop-step.place c.loop-step.copy c.args.steps.now c.loop-step.step-index (in_turn c.args.own.now 0 (map plain_step c.args.steps.now)) (omega arith) c.loop-step.invariant.rest
