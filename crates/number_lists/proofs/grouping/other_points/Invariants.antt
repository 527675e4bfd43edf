use Rattle.std.proofs.Common.{◌≡◌, ◌++◌, drop}
use Rattle.number_lists.specs.Grouping.{points_from}
use Rattle.number_lists.proofs.grouping.other_points.Given as goal

abbrev pub invariant-loop-i : goal.invariant-loop-i
invariant-loop-i l = l.points ++ points_from l.i (drop l.i l.transitions) (drop l.i l.gone) l.left ≡ points_from 0 l.transitions l.gone l.numbers
