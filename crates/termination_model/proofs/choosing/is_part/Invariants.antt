use Rattle.std.proofs.Common.{◌≡◌, take, true}
use Rattle.termination_model.specs.grounds.Modes.{is_part}
use Rattle.termination_model.proofs.choosing.is_part.Given as goal

abbrev pub invariant-loop-x : goal.invariant-loop-x
invariant-loop-x l = is_part (take l.x-index l.xs) l.ys ≡ true
