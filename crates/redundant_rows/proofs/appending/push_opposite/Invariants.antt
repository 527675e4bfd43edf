use Rattle.std.proofs.Common.{◌≡◌, ◌++◌, drop}
use Rattle.linear_rows.specs.Systems.{opposite}
use Rattle.redundant_rows.proofs.appending.push_opposite.Given as goal

abbrev pub invariant-loop-k : goal.invariant-loop-k
invariant-loop-k l = l.numbers ++ opposite (drop l.k l.more) ≡ l.initial.numbers ++ opposite l.more
