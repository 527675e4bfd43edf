-- The row of a mode, by places.
use Rattle.std.proofs.Common.{◌≡◌, ℕ, zero, suc, ◌+◌, ◌-◌, ◌*◌, ◌^◌, ◌%◌, ◌<◌, ◌≤◌, ◌==◌, ◌||◌, Bool, true, false, List, ◌∷◌, bit_or, w64, inl, inr, ap, sym, ◌∙◌, arith}
use Rattle.std.proofs.lemmas.Bool.{cases_eq}
use Rattle.std.proofs.lemmas.Bool.Decides.{nat_tests}
use Rattle.std.proofs.lemmas.Nat.Bits.{bit_at_set_same, bit_at_set_other}
use Rattle.bool_diagrams.specs.Rows.{bit_of}
use Rattle.std.specs.List.{list_any}
use Rattle.bool_diagrams.specs.Cubes.{values_of}
use Rattle.termination_model.specs.claims.Descent.{mode_row}

pub mode_place : (mode : List ℕ) (i n v : ℕ) → v < n → values_of (mode_row mode i n) v ≡ list_any (λ j. j == v + i) mode
mode_place mode i zero v lt = absurd (omega arith)
mode_place mode i (suc n) zero lt = let e : i ≡ 0 + i = omega arith in ap (λ k. list_any (λ j. j == k) mode) e
mode_place mode i (suc n) (suc v) lt = let e : v + suc i ≡ suc v + i = omega arith in mode_place mode (suc i) n v (omega arith) ∙ ap (λ k. list_any (λ j. j == k) mode) e

-- one bit is set, and the others stay
pub bit_added : (n k : ℕ) → k < 64 → bit_of (bit_or n (1 * 2 ^ k % 2 ^ 64)) k ≡ true
bit_added n k within = ap (λ b. b == 1) (bit_at_set_same w64 n k within)

pub bit_kept : (n k : ℕ) → k < 64 → (i : ℕ) → ((i ≡ k) → ⊥) → bit_of (bit_or n (1 * 2 ^ k % 2 ^ 64)) i ≡ bit_of n i
bit_kept n k within i other = ap (λ b. b == 1) (bit_at_set_other w64 n k within i other)

-- what was named is named once the next number of the mode is in the row
pub named_more : (row x i : ℕ) (rest : List ℕ) (all : Bool) → 1 ≤ x → x ≤ 64 → (bit_of row i || list_any (λ j. j == i + 1) (x ∷ rest)) ≡ all
    → (bit_of (bit_or row (1 * 2 ^ (x - 1) % 2 ^ 64)) i || list_any (λ j. j == i + 1) rest) ≡ all
named_more row x i rest all positive within h = elim (cases_eq i (x - 1)) [
  | inl same ↦
      let bit : bit_of (bit_or row (1 * 2 ^ (x - 1) % 2 ^ 64)) i ≡ true = ap (bit_of (bit_or row (1 * 2 ^ (x - 1) % 2 ^ 64))) same ∙ bit_added row (x - 1) (omega arith) in
      let is : (x == i + 1) ≡ true = grind (arith, nat_tests) in
      ap (λ b. b || list_any (λ j. j == i + 1) rest) bit ∙ there (bit_of row i) (list_any (λ j. j == i + 1) rest) all (ap (λ b. bit_of row i || (b || list_any (λ j. j == i + 1) rest)) (sym is) ∙ h)
  | inr other ↦
      let bit = bit_kept row (x - 1) (omega arith) i other in
      let not : (x == i + 1) ≡ false = grind (arith, nat_tests) in
      ap (λ b. b || list_any (λ j. j == i + 1) rest) bit ∙ ap (λ b. bit_of row i || (b || list_any (λ j. j == i + 1) rest)) (sym not) ∙ h
]
  where
    there : (b r t : Bool) → (b || (true || r)) ≡ t → (true || r) ≡ t
    there true r t e = e
    there false r t e = e
