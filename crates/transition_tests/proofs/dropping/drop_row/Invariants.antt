use Rattle.std.proofs.Common.{◌≡◌, ◌∷◌, ◌++◌, ◌-ℤ◌, map, neg_ℤ, pos, take}
use Rattle.number_tests.specs.Drops.{fall_number}
use Rattle.transition_tests.proofs.dropping.drop_row.Given as goal

abbrev pub invariant-loop-coefficient : goal.invariant-loop-coefficient
invariant-loop-coefficient l = l.coeffs.items ≡ l.head.coeffs ++ ((neg_ℤ l.call.offset -ℤ pos (fall_number l.falls)) ∷ map neg_ℤ (take l.coefficient-index l.call.coeffs))
