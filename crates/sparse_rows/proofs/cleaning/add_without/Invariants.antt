use Rattle.std.proofs.Common.{◌≡◌, take}
use Rattle.linear_rows.specs.Elimination.{without}
use Rattle.sparse_rows.specs.Adding.{add_rows}
use Rattle.sparse_rows.proofs.cleaning.add_without.Given as goal

abbrev pub invariant-loop-i : goal.invariant-loop-i
invariant-loop-i l = l.kept ≡ add_rows l.last l.initial.kept (without l.k (take l.i l.rows))
