use Rattle.std.proofs.Common.{◌≡◌, take, false}
use Rattle.std.specs.List.{list_any}
use Rattle.termination_model.specs.grounds.Modes.{is_part}
use Rattle.level_dual.proofs.walking.is_above.Given as goal

abbrev pub invariant-loop-other : goal.invariant-loop-other
invariant-loop-other l = list_any (λ t. is_part t l.set) (take l.other-index l.sets) ≡ false
