use Rattle.std.proofs.Common.{◌≡◌, drop}
use Rattle.exact128.specs.Fits.{fits}
use Rattle.linear_rows.specs.Blown.{all_of}
use Rattle.sparse_rows.specs.Sparse.{spread}
use Rattle.sparse_rows.proofs.line.parts_fit.Given as goal

abbrev pub invariant-loop-i : goal.invariant-loop-i
invariant-loop-i l = all_of fits (spread (drop l.i l.parts) l.tail) ≡ all_of fits (spread l.parts l.tail)
