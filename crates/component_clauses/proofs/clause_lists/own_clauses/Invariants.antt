use Rattle.component_clauses.proofs.OwnClauses.{AreOwnUpTo}
use Rattle.component_clauses.proofs.clause_lists.own_clauses.Given as goal

abbrev pub invariant-loop-i : goal.invariant-loop-i
invariant-loop-i l = AreOwnUpTo l.p l.comps l.i l.lists.items
