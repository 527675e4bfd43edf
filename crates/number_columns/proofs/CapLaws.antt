-- Sums and products of numbers that are held up to the greatest of 128 bits.
use Rattle.std.proofs.Common.{◌≡◌, ◌∙◌, inl, inr, ℕ, zero, suc, ◌+◌, ◌*◌, ◌-◌, ◌^◌, ◌≤◌, ◌<◌, min, ap, sym, arith}
use Rattle.std.proofs.Math.Nat.{min-eq_left, min-eq_right, le-mul_of_pos_right, mul_comm}
use Rattle.std.proofs.lemmas.Bool.{cases_lt}
use Rattle.number_columns.specs.Cells.{capped}

pub capped_sum : (a b : ℕ) → min (capped a + capped b) (2 ^ 128 - 1) ≡ capped (a + b)
capped_sum a b = omega arith

-- a product of which one factor is at least the greatest number, and the other is not 0
capped_large : (m a b : ℕ) → m ≤ a → 1 ≤ b → 1 ≤ m → min (min a m * min b m) m ≡ min (a * b) m
capped_large m a b large some most =
    let first : min a m ≡ m = min-eq_right large in
    let second : 1 ≤ min b m = omega (arith, some, most) in
    let left : m ≤ m * min b m = le-mul_of_pos_right m second in
    let right : m ≤ a * b = omega (arith, large, le-mul_of_pos_right a some) in
    ap (λ x. min (x * min b m) m) first ∙ min-eq_right left ∙ sym (min-eq_right right)

capped_at : (m a b : ℕ) → 1 ≤ m → min (min a m * min b m) m ≡ min (a * b) m
capped_at m a b most = elim (cases_lt m a) [
  | inl large ↦ large_first b large
  | inr small ↦ elim (cases_lt m b) [
    | inl large ↦ large_second a large
    | inr both ↦ (λ i. min (min-eq_left small i * min-eq_left both i) m)
  ]
]
  where
    large_first : (c : ℕ) → m < a → min (min a m * min c m) m ≡ min (a * c) m
    large_first zero l =
        let none : min 0 m ≡ 0 = omega arith in
        (λ i. min (min a m * none i) m) ∙ omega arith
    large_first (suc c) l = capped_large m a (suc c) (omega (arith, l)) (omega arith) most

    large_second : (c : ℕ) → m < b → min (min c m * min b m) m ≡ min (c * b) m
    large_second zero l =
        let none : min 0 m ≡ 0 = omega arith in
        (λ i. min (none i * min b m) m) ∙ omega arith
    large_second (suc c) l =
        (λ i. min (mul_comm (min (suc c) m) (min b m) i) m) ∙ capped_large m b (suc c) (omega (arith, l)) (omega arith) most ∙ (λ i. min (mul_comm b (suc c) i) m)

pub capped_product : (a b : ℕ) → min (capped a * capped b) (2 ^ 128 - 1) ≡ capped (a * b)
capped_product a b = capped_at (2 ^ 128 - 1) a b (omega arith)

pub capped_sum_of_products : (a b c d : ℕ)
    → min (min (capped a * capped b) (2 ^ 128 - 1) + min (capped c * capped d) (2 ^ 128 - 1)) (2 ^ 128 - 1) ≡ capped (a * b + c * d)
capped_sum_of_products a b c d =
    let l = capped_product a b in
    let r = capped_product c d in
    (λ i. min (l i + r i) (2 ^ 128 - 1)) ∙ capped_sum (a * b) (c * d)
