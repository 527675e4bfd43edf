use Rattle.std.proofs.Common.{◌≡◌, ◌∷◌, take}
use Rattle.exact128.specs.Sums.{entry}
use Rattle.sparse_rows.proofs.converting.row_of.Given as goal

abbrev pub invariant-loop-k : goal.invariant-loop-k
invariant-loop-k l = entry l.line 0 ∷ l.coeffs ≡ take l.k l.line
