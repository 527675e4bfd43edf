use Rattle.std.proofs.Common.{◌≡◌, drop}
use Rattle.sparse_rows.specs.Small.{small}
use Rattle.linear_rows.specs.Blown.{all_of}
use Rattle.sparse_rows.specs.Sparse.{spread}
use Rattle.sparse_rows.proofs.line.parts_are_small.Given as goal

abbrev pub invariant-loop-i : goal.invariant-loop-i
invariant-loop-i l = all_of small (spread (drop l.i l.parts) l.tail) ≡ all_of small (spread l.parts l.tail)
