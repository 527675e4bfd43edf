use Rattle.std.proofs.Common.{◌≡◌, drop}
use Rattle.transition_tests.specs.StuckGroups.{own_point}
use Rattle.transition_tests.proofs.points.has_own_point.Given as goal

abbrev pub invariant-loop-x : goal.invariant-loop-x
invariant-loop-x l = own_point l.place l.points ≡ own_point l.place (drop l.x-index l.points)
