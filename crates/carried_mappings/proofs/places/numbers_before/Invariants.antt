use Rattle.std.proofs.Common.{map, take}
use Rattle.level_systems.specs.Held.{spelled}
use Rattle.carried_mappings.specs.Reordered.{AreOldNumbers}
use Rattle.carried_mappings.proofs.places.numbers_before.Given as goal

abbrev pub invariant-loop-i : goal.invariant-loop-i
invariant-loop-i l = AreOldNumbers l.edit.before.now l.edit.after.now (map spelled l.before) (map spelled (take l.i l.after)) l.numbers.items
