use Rattle.std.proofs.Common.{◌≡◌, map, take}
use Rattle.exact128.specs.Sums.{entry}
use Rattle.linear_rows.specs.Elimination.{is_negative}
use Rattle.fourier.proofs.crossing.falling_flags.Given as goal

abbrev pub invariant-loop-i : goal.invariant-loop-i
invariant-loop-i l = l.falls.items ≡ map (λ s. is_negative (entry s l.k)) (take l.i l.rows)
