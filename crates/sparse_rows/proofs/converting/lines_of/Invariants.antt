use Rattle.std.proofs.Common.{◌≡◌, take}
use Rattle.linear_rows.specs.Plain.{plain_rows}
use Rattle.sparse_rows.proofs.converting.lines_of.Given as goal

abbrev pub invariant-loop-i : goal.invariant-loop-i
invariant-loop-i l = l.lines ≡ plain_rows (take l.i l.rows.list)
