use Rattle.std.proofs.Common.{◌≡◌}
use Rattle.solved_program.proofs.Comparisons.{SameTo}
use Rattle.carried_preconditions.specs.Same.{coefficients_in}
use Rattle.carried_preconditions.proofs.comparing.are_same_parts.Given as goal

abbrev pub invariant-loop-i : goal.invariant-loop-i
invariant-loop-i l = SameTo (λ x y. coefficients_in x ≡ coefficients_in y) l.i l.a l.b
