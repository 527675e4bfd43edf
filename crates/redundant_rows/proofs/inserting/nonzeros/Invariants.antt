use Rattle.std.proofs.Common.{◌≤◌}
use Rattle.redundant_rows.proofs.inserting.nonzeros.Given as goal

abbrev pub invariant-loop-k : goal.invariant-loop-k
invariant-loop-k l = l.count ≤ l.k
