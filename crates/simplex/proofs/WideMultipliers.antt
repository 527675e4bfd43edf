-- Multipliers of wide numbers that show a row.
use Rattle.std.proofs.Common.{◌≡◌, ℕ, zero, suc, ◌<◌, ℤ, pos, negsuc, ◌-ℤ◌, ◌*ℤ◌, int_lt, false, List, map, length, refl, sym, subst, arith}
use Rattle.std.specs.Prelude.{All, ◌≤ℤ◌}
use Rattle.std.proofs.lemmas.Int.{ints}
use Rattle.std.proofs.lemmas.List.{get_or-map, length-map}
use Rattle.exact128.specs.Sums.{entry}
use Rattle.exact384.specs.declared.integer.Integer.{Integer}
use Rattle.exact384.specs.Value.{value_of}
use Rattle.linear_rows.specs.Proves.{goal_number}

pub not_below : (z : ℤ) → int_lt z (pos 0) ≡ false → pos 0 ≤ℤ z
not_below z e = omega (arith, ints, e)

pub at_most : (x z : ℤ) → int_lt x z ≡ false → pos 0 ≤ℤ (x -ℤ z)
at_most x z e = omega (arith, ints, e)

-- scale 0 stands for the row that holds nowhere
pub nowhere : (s : ℤ) (row : List ℤ) (k : ℕ) → s ≡ pos 0 → k ≡ 0 → goal_number s row k ≡ negsuc 0
nowhere (pos zero) row zero e f = refl
nowhere (pos zero) row (suc k) e f = absurd (omega (arith, f))
nowhere (pos (suc n)) row k e f = absurd (omega (arith, ints, e))
nowhere (negsuc n) row k e f = absurd (omega (arith, ints, e))

pub elsewhere : (s : ℤ) (row : List ℤ) (k : ℕ) → (s ≡ pos 0 → k ≡ 0 → ⊥) → goal_number s row k ≡ s *ℤ entry row k
elsewhere (pos zero) row zero h = absurd (h refl refl)
elsewhere (pos zero) row (suc k) h = omega (arith, ints)
elsewhere (pos (suc n)) row k h = refl
elsewhere (negsuc n) row k h = refl

pub naturals : (xs : List Integer) → All (λ (x : Integer). pos 0 ≤ℤ value_of x) xs → All (λ (z : ℤ). pos 0 ≤ℤ z) (map value_of xs)
naturals xs h k d l =
    let lt : k < length xs = rw (length-map xs value_of) at l in
    subst (λ (z : ℤ). pos 0 ≤ℤ z) (sym (get_or-map value_of xs k spare d lt)) (h k spare lt)
  where
    spare : Integer
    spare = record { negative = false; magnitude = record { low = 0; middle = 0; high = 0 } }
