use Rattle.std.proofs.Common.{◌≡◌, ◌∷◌, pos, take}
use Rattle.fourier.proofs.starting.given_line.Given as goal

abbrev pub invariant-loop-k : goal.invariant-loop-k
invariant-loop-k l = l.line ≡ pos 0 ∷ take l.k l.row.coeffs
