use Rattle.std.proofs.Common.{◌≡◌, ◌++◌}
use Rattle.linear_rows.specs.Solving.{zeros}
use Rattle.redundant_rows.proofs.appending.push_zeros.Given as goal

abbrev pub invariant-loop-k : goal.invariant-loop-k
invariant-loop-k l = l.numbers ≡ l.initial.numbers ++ zeros l.k
