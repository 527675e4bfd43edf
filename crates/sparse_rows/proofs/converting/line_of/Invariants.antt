use Rattle.std.proofs.Common.{◌≡◌, ◌∷◌, take}
use Rattle.sparse_rows.proofs.converting.line_of.Given as goal

abbrev pub invariant-loop-k : goal.invariant-loop-k
invariant-loop-k l = l.line ≡ l.row.constant ∷ take l.k l.row.coeffs
