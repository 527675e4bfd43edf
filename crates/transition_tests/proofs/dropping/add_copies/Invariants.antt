use Rattle.std.proofs.Common.{◌≡◌, ◌++◌, take}
use Rattle.transition_tests.proofs.dropping.add_copies.Given as goal

abbrev pub invariant-loop-i : goal.invariant-loop-i
invariant-loop-i l = l.list ≡ l.fn.list ++ take l.i l.columns
