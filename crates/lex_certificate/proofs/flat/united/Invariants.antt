use Rattle.std.proofs.Common.{◌≡◌, ◌++◌, length}
use Rattle.lex_certificate.specs.Flat.{united}
use Rattle.lex_certificate.proofs.flat.united.Given as goal

-- what is united so far, and what is left of both lists
abbrev pub invariant-loop-x : goal.invariant-loop-x
invariant-loop-x l = l.both.items ++ united l.left l.right ≡ united l.xs l.ys

abbrev pub decreases-loop-x : goal.decreases-loop-x
decreases-loop-x l = length l.left
