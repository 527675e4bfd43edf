use Rattle.std.proofs.Common.{◌≡◌, map, take}
use Rattle.std.specs.List.{flat_map}
use Rattle.carried_mappings.specs.Reordered.{of_set}
use Rattle.carried_mappings.specs.Reorderings.{mapping_now, set_now}
use Rattle.carried_mappings.proofs.reordering.Reordered.ordered.Given as goal

abbrev pub invariant-loop-set : goal.invariant-loop-set
invariant-loop-set l = l.ordered ≡ map (mapping_now l.self) (flat_map (of_set (set_now l.self) l.mappings) (take l.set-index l.set-items))
