use Rattle.std.proofs.Common.{◌≡◌, map, take}
use Rattle.carried_mappings.specs.Reorderings.{set_now}
use Rattle.carried_mappings.proofs.reordering.Reordered.supports.Given as goal

abbrev pub invariant-loop-mapping : goal.invariant-loop-mapping
invariant-loop-mapping l = l.supports ≡ map (set_now l.self) (take l.mapping-index l.mappings)
