use Rattle.std.proofs.Common.{◌≡◌, map, take}
use Rattle.carried_mappings.specs.Reorderings.{mapping_now}
use Rattle.carried_mappings.proofs.reordering.Reordered.all.Given as goal

abbrev pub invariant-loop-mapping : goal.invariant-loop-mapping
invariant-loop-mapping l = l.moved ≡ map (mapping_now l.self) (take l.mapping-index l.mappings)
