-- Whole numbers cut off at 0: a natural that does not rise where the number does not, and falls where it falls and is
-- at least 0.
use Rattle.std.proofs.Common.{ℕ, suc, ◌<◌, ◌≤◌, ℤ, pos, negsuc, ◌+ℤ◌, ◌≤ℤ◌, arith}
use Rattle.std.proofs.lemmas.Int.{ints}

-- n + 1 of a number that is at least 0, else 0
abbrev pub cut : ℤ → ℕ
cut (pos n) = suc n
cut (negsuc n) = 0

pub cut_rises : (a b : ℤ) → a ≤ℤ b → cut a ≤ cut b
cut_rises (pos a) (pos b) l = omega (arith, ints)
cut_rises (pos a) (negsuc b) l = absurd (omega (arith, ints))
cut_rises (negsuc a) (pos b) l = omega arith
cut_rises (negsuc a) (negsuc b) l = omega arith

pub cut_falls : (a b : ℤ) → (a +ℤ pos 1) ≤ℤ b → pos 0 ≤ℤ b → cut a < cut b
cut_falls (pos a) (pos b) l h = omega (arith, ints)
cut_falls (pos a) (negsuc b) l h = absurd (omega (arith, ints))
cut_falls (negsuc a) (pos b) l h = omega arith
cut_falls (negsuc a) (negsuc b) l h = absurd (omega (arith, ints))
