use Rattle.std.proofs.Common.{◌≡◌, ◌++◌, take, length}
use Rattle.linear_rows.specs.Plain.{plain_rows}
use Rattle.linear_rows.specs.Solving.{carried}
use Rattle.fourier.proofs.starting.push_given.Given as goal

abbrev pub invariant-loop-i : goal.invariant-loop-i
invariant-loop-i l = l.lines ≡ l.initial.lines ++ carried (length l.rows.list) 0 (take l.i (plain_rows l.rows.list))
