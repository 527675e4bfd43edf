use Rattle.std.proofs.Common.{◌≡◌}
use Rattle.truth_rows.specs.Sets.{family_of}
use Rattle.solved_program.proofs.MemberMarks.{AreMarkedUpTo}
use Rattle.solved_program.proofs.marking.mark_same_sets.Given as goal

abbrev pub invariant-loop-member : goal.invariant-loop-member
invariant-loop-member l = AreMarkedUpTo (λ r. family_of l.edit.after.now.preds l.table l.sets r ≡ family_of l.edit.after.now.preds l.table l.before r) l.member-items l.fn.stayed l.member-index l.stayed
