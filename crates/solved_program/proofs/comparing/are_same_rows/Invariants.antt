use Rattle.std.proofs.Common.{◌≡◌}
use Rattle.linear_rows.specs.Plain.{plain_row}
use Rattle.solved_program.proofs.Comparisons.{SameTo}
use Rattle.solved_program.proofs.comparing.are_same_rows.Given as goal

abbrev pub invariant-loop-i : goal.invariant-loop-i
invariant-loop-i l = SameTo (λ x y. plain_row x ≡ plain_row y) l.i l.xs l.ys
