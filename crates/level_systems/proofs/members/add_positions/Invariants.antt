use Rattle.std.proofs.Common.{◌≡◌, ◌++◌, ◌-◌, map}
use Rattle.level_systems.specs.Held.{spelled}
use Rattle.level_systems.specs.Ordered.{arguments_from}
use Rattle.level_systems.proofs.members.add_positions.Given as goal

abbrev pub invariant-loop-argument : goal.invariant-loop-argument
invariant-loop-argument l =
    map spelled l.positions.items ++ arguments_from l.pred.0 l.argument (l.argument-end - l.argument) ≡ map spelled l.fn.positions.items ++ arguments_from l.pred.0 0 l.argument-end
