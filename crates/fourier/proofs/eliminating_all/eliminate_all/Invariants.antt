use Rattle.std.proofs.Common.{◌+◌}
use Rattle.linear_rows.specs.Plain.{plain_rows}
use Rattle.fourier.proofs.Sequences.{Left}
use Rattle.fourier.proofs.eliminating_all.eliminate_all.Given as goal

abbrev pub invariant-loop-i : goal.invariant-loop-i
invariant-loop-i l = Left (l.fn.rows.width + 1) l.fn.rows.width l.fn.from l.fn.count l.i (plain_rows l.fn.rows.list) l.current
