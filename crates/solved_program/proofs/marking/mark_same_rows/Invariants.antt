use Rattle.std.proofs.Common.{◌≡◌}
use Rattle.termination_model.specs.sizes.Sizes.{rows_of}
use Rattle.solved_program.proofs.MemberMarks.{AreMarkedUpTo}
use Rattle.solved_program.proofs.marking.mark_same_rows.Given as goal

abbrev pub invariant-loop-member : goal.invariant-loop-member
invariant-loop-member l = AreMarkedUpTo (λ r. rows_of l.rows r ≡ rows_of l.before r) l.member-items l.fn.stayed l.member-index l.stayed
