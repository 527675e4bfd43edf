use Rattle.std.proofs.Common.{◌≡◌, ◌++◌, ◌+◌, map, drop}
use Rattle.level_systems.specs.Held.{spelled}
use Rattle.level_systems.specs.Mappings.{mapping_with, support_of}
use Rattle.termination_model.specs.mappings.Supports.{support_from}
use Rattle.level_dual.proofs.large.support_of.Given as goal

-- those so far, and those of the rest
abbrev pub invariant-loop-i : goal.invariant-loop-i
invariant-loop-i l = l.support.items ++ support_from (l.i + 1) (map spelled (drop l.i l.positions)) (mapping_with l.mapping.measures) ≡ support_of (map spelled l.positions) l.mapping
