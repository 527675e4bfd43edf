use Rattle.std.proofs.Common.{◌≡◌, take}
use Rattle.carried_preconditions.proofs.modes.copied_modes.Given as goal

abbrev pub invariant-loop-mode : goal.invariant-loop-mode
invariant-loop-mode l = l.copy ≡ take l.mode-index l.modes
