-- The falls, one call after another.
use Rattle.std.proofs.Common.{◌≡◌, ℕ, zero, suc, ◌+◌, ◌≤◌, ◌≤ℤ◌, ℤ, pos, List, [], ◌∷◌, drop, length, Option, None, Some, arith}
use Rattle.std.specs.Prelude.{All}
use Rattle.linear_rows.specs.declared.multipliers.Multipliers.{Multipliers}
use Rattle.level_systems.specs.Falling.{values_after}
use Rattle.level_systems.specs.Recalled.{with_count}
use Rattle.level_dual.proofs.PartLaws.{all_dropped}

length_after : (xs : List ℤ) (n k : ℕ) → n + k ≤ length xs → k ≤ length (drop n xs)
length_after xs zero k l = omega (arith, l)
length_after [] (suc n) k l = absurd (omega (arith, l))
length_after (x ∷ xs) (suc n) k l = length_after xs n k (omega (arith, l))

pub room_after : (m : Option Multipliers) (n k : ℕ) (xs : List ℤ) → with_count m n k ≤ length xs → k ≤ length (values_after m n xs)
room_after None n k xs l = length_after xs n k l
room_after (Some by) n k xs l = l

pub room_here : (m : Option Multipliers) (n k : ℕ) (xs : List ℤ) → with_count m n k ≤ length xs → m ≡ None → n ≤ length xs
room_here None n k xs l e = omega (arith, l)
room_here (Some by) n k xs l e = cc

pub naturals_after : (m : Option Multipliers) (n : ℕ) (xs : List ℤ) → All (λ x. pos 0 ≤ℤ x) xs → All (λ x. pos 0 ≤ℤ x) (values_after m n xs)
naturals_after None n xs h = all_dropped n xs h
naturals_after (Some by) n xs h = h
