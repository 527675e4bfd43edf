use Rattle.std.proofs.Common.{◌≡◌, map, take}
use Rattle.call_components.specs.Numbers.{number_of}
use Rattle.carried_mappings.specs.Moved.{with_members}
use Rattle.carried_mappings.proofs.moving.moved_measures.Given as goal

abbrev pub invariant-loop-i : goal.invariant-loop-i
invariant-loop-i l = l.moved ≡ with_members (map number_of (take l.i l.members)) (take l.i l.measures)
