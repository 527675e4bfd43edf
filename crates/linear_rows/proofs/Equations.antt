-- A row that rises, crossed with the negation of another one, is bounded by that other one.
use Rattle.std.proofs.Common.{◌≡◌, ℕ, zero, suc, ℤ, pos, negsuc, List, [], ◌∷◌, ◌<◌, ◌*ℤ◌, true, map, length, refl, ◌∙◌, arith}
use Rattle.std.specs.Prelude.{◌≤ℤ◌}
use Rattle.std.proofs.lemmas.Int.{ints}
use Rattle.exact128.proofs.Rings.{mul-neg, neg-mul}
use Rattle.exact128.specs.Sums.{entry}
use Rattle.linear_rows.specs.Elimination.{crossed}
use Rattle.linear_rows.specs.RowSums.{scaled}
use Rattle.linear_rows.specs.Cleaning.{int_same}
use Rattle.linear_rows.specs.Equation.{negates}
use Rattle.linear_rows.proofs.Projection.{value, rest, put, Bounds}
use Rattle.linear_rows.proofs.Bounding.{crossed_bounds, value-scaled}
use Rattle.linear_rows.proofs.Cleanings.{dot-le, same_from}
use Rattle.exact128.proofs.FitsLemmas.{both}
use Rattle.linear_rows.proofs.Steps.{length-put}
use lib.IntN.{neg_ℤ}

pub negates_at : (n : ℕ) (r s : List ℤ) (j : ℕ) → negates n r s ≡ true → j < n → entry s j ≡ neg_ℤ (entry r j)
negates_at zero r s j e h = absurd (omega arith)
negates_at (suc n) r s j e h =
    let two = both (int_same (entry s n) (neg_ℤ (entry r n))) (negates n r s) e in
    grind (arith, negates_at n r s j two.1, same_from (entry s n) (neg_ℤ (entry r n)) two.0)

entry-minus : (xs : List ℤ) (k : ℕ) → entry (scaled (negsuc 0) xs) k ≡ neg_ℤ (entry xs k)
entry-minus [] k = refl
entry-minus (x ∷ xs) zero = omega (arith, ints)
entry-minus (x ∷ xs) (suc k) = entry-minus xs k

value_negated : (n : ℕ) (r s : List ℤ) (ps : List ℕ) → length ps ≡ n → negates n r s ≡ true → value s ps ≡ neg_ℤ (value r ps)
value_negated n r s ps lp e =
    let minus = scaled (negsuc 0) r in
    let is = value-scaled (negsuc 0) r (map pos ps) in
    let low = dot-le s minus ps (λ k l. let a = negates_at n r s k e (omega arith) in let b = entry-minus r k in omega (arith, ints, a, b)) in
    let high = dot-le minus s ps (λ k l. let a = negates_at n r s k e (omega arith) in let b = entry-minus r k in omega (arith, ints, a, b)) in
    omega (arith, ints, is)

pub equation_bounds : (n k : ℕ) (r s q : List ℤ) (ps : List ℕ) → length ps ≡ n → k < n → negates n r s ≡ true → pos 1 ≤ℤ entry r k → pos 1 ≤ℤ entry q k →
    pos 0 ≤ℤ value (crossed k q s) ps → Bounds k ps r q
equation_bounds n k r s q ps lp lt e pr pq h =
    let es = negates_at n r s k e lt in
    let rs : rest k ps s ≡ neg_ℤ (rest k ps r) = value_negated n r s (put ps k 0) (length-put ps k 0 ∙ lp) e in
    let b = crossed_bounds k q s ps (omega arith) pq (omega (arith, ints, es)) h in
    let one : entry s k *ℤ rest k ps q ≡ neg_ℤ (entry r k *ℤ rest k ps q) = rw es (neg-mul (entry r k) (rest k ps q)) in
    let two : entry q k *ℤ rest k ps s ≡ neg_ℤ (entry q k *ℤ rest k ps r) = rw rs (mul-neg (entry q k) (rest k ps r)) in
    omega (arith, ints, one, two)

-- the negation leaves r exactly the room that r takes
pub negation_bounds : (n k : ℕ) (r s : List ℤ) (ps : List ℕ) → length ps ≡ n → k < n → negates n r s ≡ true → Bounds k ps r s
negation_bounds n k r s ps lp lt e =
    let es = negates_at n r s k e lt in
    let rs : rest k ps s ≡ neg_ℤ (rest k ps r) = value_negated n r s (put ps k 0) (length-put ps k 0 ∙ lp) e in
    let one : entry s k *ℤ rest k ps r ≡ neg_ℤ (entry r k *ℤ rest k ps r) = rw es (neg-mul (entry r k) (rest k ps r)) in
    let two : entry r k *ℤ rest k ps s ≡ neg_ℤ (entry r k *ℤ rest k ps r) = rw rs (mul-neg (entry r k) (rest k ps r)) in
    omega (arith, ints, one, two)
