use Rattle.std.proofs.Common.{map, take}
use Rattle.call_components.specs.Numbers.{number_of}
use Rattle.carried_mappings.specs.Reordered.{ArePlaces}
use Rattle.carried_mappings.proofs.places.places_before.Given as goal

abbrev pub invariant-loop-i : goal.invariant-loop-i
invariant-loop-i l = ArePlaces l.edit.before.now l.edit.after.now (map number_of l.before) (map number_of (take l.i l.after)) l.places.items
