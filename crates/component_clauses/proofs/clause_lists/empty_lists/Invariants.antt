use Rattle.std.proofs.Common.{◌≡◌, replicate, []}
use Rattle.component_clauses.proofs.clause_lists.empty_lists.Given as goal

abbrev pub invariant-loop-c : goal.invariant-loop-c
invariant-loop-c l = l.lists.items ≡ replicate l._c []
