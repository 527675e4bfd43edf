use Rattle.std.proofs.Common.{◌≡◌, ◌≤◌, drop, length}
use Rattle.linear_rows.specs.Cleaning.{row_gcd}
use Rattle.sparse_rows.specs.Sparse.{spread}
use Rattle.sparse_rows.proofs.line.shared_of.Given as goal

abbrev pub invariant-loop-i : goal.invariant-loop-i
invariant-loop-i l = record {
  value : l.shared ≡ row_gcd (spread (drop l.i l.parts) l.tail);
  place : l.i ≤ length l.parts;
}

abbrev pub decreases-loop-i : goal.decreases-loop-i
decreases-loop-i l = l.i
