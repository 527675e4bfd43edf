use Rattle.std.proofs.Common.{◌≡◌, take, false}
use Rattle.std.specs.List.{list_any}
use Rattle.termination_model.specs.grounds.Modes.{is_part}
use Rattle.level_dual.proofs.small.is_below.Given as goal

abbrev pub invariant-loop-other : goal.invariant-loop-other
invariant-loop-other l = list_any (λ t. is_part l.set t) (take l.other-index l.sets) ≡ false
