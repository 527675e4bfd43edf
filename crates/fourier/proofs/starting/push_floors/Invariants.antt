use Rattle.std.proofs.Common.{◌≡◌, ◌++◌, ◌+◌}
use Rattle.linear_rows.specs.Solving.{floors}
use Rattle.fourier.proofs.starting.push_floors.Given as goal

abbrev pub invariant-loop-i : goal.invariant-loop-i
invariant-loop-i l = l.lines ≡ l.initial.lines ++ floors l.i 0 (l.count + 1 + l.many)
