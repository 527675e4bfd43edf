use Rattle.std.proofs.Common.{◌≡◌, take}
use Rattle.level_systems.specs.Found.{without_number}
use Rattle.level_dual.proofs.large.without_number.Given as goal

abbrev pub invariant-loop-other : goal.invariant-loop-other
invariant-loop-other l = l.rest.items ≡ without_number l.number (take l.other-index l.set)
