use Rattle.std.proofs.Common.{◌≡◌, map, take}
use Rattle.carried_mappings.specs.Carrying.{new_number}
use Rattle.carried_mappings.specs.Moved.{moved_pair}
use Rattle.carried_mappings.proofs.standing.Standing.moved_points.Given as goal

abbrev pub invariant-loop-pair : goal.invariant-loop-pair
invariant-loop-pair l = l.moved ≡ map (moved_pair (new_number l.self)) (take l.pair-index l.points)
