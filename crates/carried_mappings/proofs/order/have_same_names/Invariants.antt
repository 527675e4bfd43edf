use Rattle.solved_program.proofs.Comparisons.{SameTo}
use Rattle.carried_mappings.proofs.Orders.{AreNamesakes}
use Rattle.carried_mappings.proofs.order.have_same_names.Given as goal

abbrev pub invariant-loop-i : goal.invariant-loop-i
invariant-loop-i l = SameTo (AreNamesakes l.edit.before.now l.edit.after.now) l.i l.before l.after
