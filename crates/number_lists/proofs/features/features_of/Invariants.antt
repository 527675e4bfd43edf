use Rattle.std.proofs.Common.{◌≡◌, ◌++◌, drop, map}
use Rattle.number_lists.specs.Features.{columns_in}
use Rattle.number_turns.specs.Recalled.{spelled}
use Rattle.number_lists.proofs.features.features_of.Given as goal

abbrev pub invariant-loop-position : goal.invariant-loop-position
invariant-loop-position l = map spelled l.features.items ++ columns_in (drop l.position-index l.positions) ≡ columns_in l.positions
