use Rattle.std.proofs.Common.{◌≡◌, ◌+◌, ◌++◌, drop}
use Rattle.number_lists.specs.Features.{picked_from}
use Rattle.number_lists.proofs.features.picked.Given as goal

abbrev pub invariant-loop-i : goal.invariant-loop-i
invariant-loop-i l = l.at.items ++ picked_from (l.i + 1) (drop l.i l.positions) l.set ≡ picked_from 1 l.positions l.set
