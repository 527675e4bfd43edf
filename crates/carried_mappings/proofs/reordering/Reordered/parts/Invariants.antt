use Rattle.std.proofs.Common.{◌≡◌, map, take}
use Rattle.call_components.specs.Numbers.{number_of}
use Rattle.carried_mappings.specs.Reordered.{placed}
use Rattle.carried_mappings.proofs.reordering.Reordered.parts.Given as goal

abbrev pub invariant-loop-i : goal.invariant-loop-i
invariant-loop-i l = l.parts ≡ placed (map number_of (take l.i l.self.members.now)) (take l.i l.self.places.now) l.measures
