use Rattle.std.proofs.Common.{◌≡◌, ◌++◌, drop, map}
use Rattle.call_components.specs.Numbers.{number_of}
use Rattle.level_systems.specs.Held.{spelled}
use Rattle.termination_model.specs.mappings.Ready.{arity_in, positions_by}
use Rattle.level_systems.proofs.members.positions_of.Given as goal

abbrev pub invariant-loop-member : goal.invariant-loop-member
invariant-loop-member l = map spelled l.positions.items ++ positions_by (arity_in l.p) (map number_of (drop l.member-index l.members)) ≡ positions_by (arity_in l.p) (map number_of l.members)
