use Rattle.std.proofs.Common.{◌≡◌, map, take}
use Rattle.call_components.specs.Numbers.{number_of}
use Rattle.carried_mappings.specs.Carrying.{new_number}
use Rattle.carried_mappings.specs.Moved.{moved_mapping}
use Rattle.carried_mappings.proofs.standing.Standing.moved_mappings.Given as goal

abbrev pub invariant-loop-mapping : goal.invariant-loop-mapping
invariant-loop-mapping l = l.moved ≡ map (moved_mapping (new_number l.self) (map number_of l.members)) (take l.mapping-index l.mappings)
