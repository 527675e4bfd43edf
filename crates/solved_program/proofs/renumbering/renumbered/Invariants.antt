use Rattle.std.proofs.Common.{◌≡◌, ◌++◌, ◌<◌, drop, length, map}
use Rattle.numeric_model.specs.States.{plain_step}
use Rattle.solved_program.specs.Renumbered.{in_turn}
use Rattle.solved_program.proofs.renumbering.renumbered.Given as goal

abbrev pub invariant-loop-step : goal.invariant-loop-step
invariant-loop-step l = record {
  within : l.place < length l.own;
  rest : map plain_step l.copy ++ in_turn l.own l.place (map plain_step (drop l.step-index l.steps)) ≡ in_turn l.own 0 (map plain_step l.steps);
}
