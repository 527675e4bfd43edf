use Rattle.std.proofs.Common.{◌≤◌, ◌+◌}
use Rattle.fourier.proofs.stepping.combines_many.Given as goal

abbrev pub invariant-loop-i : goal.invariant-loop-i
invariant-loop-i l = l.rising + l.falling ≤ l.i
