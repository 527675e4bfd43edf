use Rattle.std.proofs.Common.{◌≡◌, None, replicate}
use Rattle.number_columns.proofs.numeric.no_firsts.Given as goal

abbrev pub invariant-loop-i : goal.invariant-loop-i
invariant-loop-i l = l.first.items ≡ replicate l._i None
