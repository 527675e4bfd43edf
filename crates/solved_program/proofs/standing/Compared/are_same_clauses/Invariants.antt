use Rattle.solved_program.specs.Comparing.{HaveSameClause}
use Rattle.solved_program.proofs.Comparisons.{SameTo}
use Rattle.solved_program.proofs.standing.Compared.are_same_clauses.Given as goal

abbrev pub invariant-loop-i : goal.invariant-loop-i
invariant-loop-i l = SameTo (HaveSameClause l.self) l.i l.own_before l.own
