use Rattle.solved_program.specs.Comparing.{IsTheSameCall}
use Rattle.solved_program.proofs.Comparisons.{SameTo}
use Rattle.solved_program.proofs.standing.Compared.are_same_calls.Given as goal

abbrev pub invariant-loop-i : goal.invariant-loop-i
invariant-loop-i l = SameTo (λ b e. IsTheSameCall l.self b.pred.0 e.pred.0) l.i l.before l.after
