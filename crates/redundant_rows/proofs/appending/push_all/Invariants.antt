use Rattle.std.proofs.Common.{◌≡◌, ◌++◌, drop}
use Rattle.redundant_rows.proofs.appending.push_all.Given as goal

abbrev pub invariant-loop-k : goal.invariant-loop-k
invariant-loop-k l = l.numbers ++ drop l.k l.more ≡ l.initial.numbers ++ l.more
