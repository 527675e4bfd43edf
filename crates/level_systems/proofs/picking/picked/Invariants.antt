use Rattle.std.proofs.Common.{◌≡◌, ◌+◌, ◌++◌, drop, map}
use Rattle.level_systems.specs.Held.{spelled}
use Rattle.termination_model.specs.mappings.Supports.{picked_from}
use Rattle.level_systems.proofs.picking.picked.Given as goal

abbrev pub invariant-loop-i : goal.invariant-loop-i
invariant-loop-i l = map spelled l.picked.items ++ picked_from (l.i + 1) (map spelled (drop l.i l.positions)) l.set ≡ picked_from 1 (map spelled l.positions) l.set
