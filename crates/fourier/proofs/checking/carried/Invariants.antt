use Rattle.std.proofs.Common.{◌≡◌, ◌++◌, drop}
use Rattle.fourier.proofs.checking.carried.Given as goal

abbrev pub invariant-loop-k : goal.invariant-loop-k
invariant-loop-k l = l.numbers ++ drop l.k l.line ≡ drop l.from l.line
