use Rattle.std.proofs.Common.{◌≡◌, drop}
use Rattle.exact128.specs.Sums.{entry}
use Rattle.sparse_rows.specs.Sparse.{spread}
use Rattle.sparse_rows.proofs.line.entry_of.Given as goal

abbrev pub invariant-loop-i : goal.invariant-loop-i
invariant-loop-i l = entry (spread (drop l.i l.parts) l.tail) l.left ≡ entry (spread l.parts l.tail) l.k
