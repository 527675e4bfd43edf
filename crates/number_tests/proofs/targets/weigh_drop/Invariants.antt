use Rattle.std.proofs.Common.{◌≡◌, ◌∷◌, ◌++◌, ◌-ℤ◌, map, neg_ℤ, pos, take}
use Rattle.number_tests.specs.Drops.{fall_number}
use Rattle.number_tests.proofs.targets.weigh_drop.Given as goal

abbrev pub invariant-loop-coefficient : goal.invariant-loop-coefficient
invariant-loop-coefficient l = l.weights.items ≡ (l.head.offset ∷ l.head.coeffs) ++ ((neg_ℤ l.call.offset -ℤ pos (fall_number l.falls)) ∷ map neg_ℤ (take l.coefficient-index l.call.coeffs))
