use Rattle.std.proofs.Common.{◌≡◌, replicate, []}
use Rattle.groundness.proofs.clause_lists.ClauseLists.new.Given as goal

abbrev pub invariant-loop-i : goal.invariant-loop-i
invariant-loop-i l = l.rows.items ≡ replicate l._i []
