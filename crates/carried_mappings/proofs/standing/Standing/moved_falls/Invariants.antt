use Rattle.std.proofs.Common.{◌≡◌, map, take}
use Rattle.carried_mappings.specs.Carrying.{new_number}
use Rattle.carried_mappings.specs.Moved.{moved_fall}
use Rattle.carried_mappings.proofs.standing.Standing.moved_falls.Given as goal

abbrev pub invariant-loop-fall : goal.invariant-loop-fall
invariant-loop-fall l = l.moved ≡ map (moved_fall (new_number l.self)) (take l.fall-index l.falls)
