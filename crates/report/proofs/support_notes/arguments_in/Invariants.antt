use Rattle.std.proofs.Common.{◌≡◌, ◌+◌, ◌-◌, ◌++◌}
use Rattle.report.specs.SupportNotes.{arguments_in}
use Rattle.report.proofs.support_notes.arguments_in.Given as goal

-- the arguments so far are there, and the others are to come
abbrev pub invariant-loop-a : goal.invariant-loop-a
invariant-loop-a l = l.arguments ++ arguments_in l.set (l.first + l.a) (l.a + 1) (l.arity - l.a) ≡ arguments_in l.set l.first 1 l.arity
