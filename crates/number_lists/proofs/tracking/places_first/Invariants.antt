use Rattle.std.proofs.Common.{◌≡◌}
use Rattle.number_lists.specs.Tracking.{no_places}
use Rattle.number_lists.proofs.tracking.places_first.Given as goal

abbrev pub invariant-loop : goal.invariant-loop
invariant-loop l = l.places.items ≡ no_places l.counter
