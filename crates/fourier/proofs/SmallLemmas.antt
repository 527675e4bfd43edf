-- No number of a step is too large where all numbers of its rows are small.
use Rattle.std.proofs.Common.{◌≡◌, ℕ, zero, suc, ℤ, pos, List, [], ◌∷◌, ◌/◌, ◌<◌, ◌^◌, ◌+ℤ◌, ◌*ℤ◌, Bool, true, false, cond, length, refl, sym, subst, arith}
use Rattle.std.specs.Prelude.{unsigned_abs, filter, ◌&&◌, ◌||◌}
use Rattle.std.specs.Cmp.Derive.{both_true}
use Rattle.std.proofs.Math.Nat.{div-le_self}
use Rattle.std.proofs.lemmas.Bool.{ltb-true}
use Rattle.std.proofs.lemmas.Int.{ints, unsigned_abs-mul}
use Rattle.std.proofs.lemmas.Nat.{mul-lt}
use Rattle.exact128.specs.Fits.{fits}
use Rattle.exact128.specs.Gcd.{gcd}
use Rattle.exact128.specs.Sums.{entry}
use Rattle.exact128.proofs.FitsLemmas.{both}
use Rattle.linear_rows.specs.Elimination.{is_positive, is_negative, rising, falling}
use Rattle.linear_rows.specs.Blown.{all_of, blend_fits, crossed_fits, crossings_fit}
use Rattle.fourier.specs.Saying.{FitsUnless}
use Rattle.sparse_rows.specs.Small.{small}
use Rattle.sparse_rows.proofs.SparseLemmas.{all_three}
use Rattle.fourier.proofs.StepLemmas.{fits_unless, unless_crowded}

entry_small : (row : List ℤ) (k : ℕ) → all_of small row ≡ true → unsigned_abs (entry row k) < 2 ^ 62
entry_small [] k h = omega arith
entry_small (x ∷ xs) zero h = ltb-true (unsigned_abs x) (2 ^ 62) (both (small x) (all_of small xs) h).0
entry_small (x ∷ xs) (suc k) h = entry_small xs k (both (small x) (all_of small xs) h).1

product_within : (a x : ℤ) → unsigned_abs a < 2 ^ 62 → unsigned_abs x < 2 ^ 62 → unsigned_abs (a *ℤ x) < 2 ^ 124
product_within a x p q = subst (λ n. n < 2 ^ 124) (sym (unsigned_abs-mul a x)) (mul-lt (unsigned_abs a) (unsigned_abs x) (2 ^ 62) (2 ^ 62) p q)

sum_within : (y z : ℤ) → unsigned_abs y < 2 ^ 124 → unsigned_abs z < 2 ^ 124 → unsigned_abs (y +ℤ z) < 2 ^ 127
sum_within y z p q = omega (arith, ints, p, q)

products_fit : (y z : ℤ) → unsigned_abs y < 2 ^ 124 → unsigned_abs z < 2 ^ 124 → (fits y && (fits z && fits (y +ℤ z))) ≡ true
products_fit y z p q = all_three y z (y +ℤ z) (omega (arith, p), omega (arith, q), sum_within y z p q)

blend_small : (a b : ℤ) (r s : List ℤ) → unsigned_abs a < 2 ^ 62 → unsigned_abs b < 2 ^ 62 → all_of small r ≡ true → all_of small s ≡ true → blend_fits a b r s ≡ true
blend_small a b [] s p q h g = refl
blend_small a b (x ∷ xs) [] p q h g = refl
blend_small a b (x ∷ xs) (y ∷ ys) p q h g =
    let left = both (small x) (all_of small xs) h in
    let right = both (small y) (all_of small ys) g in
    both_true
    (products_fit (a *ℤ x) (b *ℤ y) (product_within a x p (ltb-true (unsigned_abs x) (2 ^ 62) left.0)) (product_within b y q (ltb-true (unsigned_abs y) (2 ^ 62) right.0)))
    (blend_small a b xs ys p q left.1 right.1)

factor_within : (n g : ℕ) → n < 2 ^ 62 → n / g < 2 ^ 62
factor_within n g h = let l = div-le_self n g in omega (arith, l, h)

crossed_small : (k : ℕ) (r s : List ℤ) → all_of small r ≡ true → all_of small s ≡ true → crossed_fits k r s ≡ true
unfolding crossed_fits
crossed_small k r s h g =
    let d = gcd (unsigned_abs (entry r k)) (unsigned_abs (entry s k)) in
    blend_small (pos (unsigned_abs (entry s k) / d)) (pos (unsigned_abs (entry r k) / d)) r s (factor_within (unsigned_abs (entry s k)) d (entry_small s k g)) (factor_within (unsigned_abs (entry r k)) d (entry_small r k h)) h g

all_filtered : {X : Type 0} (p q : X → Bool) (xs : List X) → all_of q xs ≡ true → all_of q (filter p xs) ≡ true
all_filtered p q [] h = refl
all_filtered {X} p q (x ∷ xs) h =
    let two = both (q x) (all_of q xs) h in
    front (p x) two.0 (all_filtered p q xs two.1)
  where
    front : (b : Bool) → q x ≡ true → all_of q (filter p xs) ≡ true → all_of q (cond b (x ∷ filter p xs) (filter p xs)) ≡ true
    front true e f = both_true e f
    front false e f = f

all_each : {X : Type 0} (q t : X → Bool) (xs : List X) → ((x : X) → q x ≡ true → t x ≡ true) → all_of q xs ≡ true → all_of t xs ≡ true
all_each q t [] f h = refl
all_each q t (x ∷ xs) f h =
    let two = both (q x) (all_of q xs) h in
    both_true (f x two.0) (all_each q t xs f two.1)

pub crossings_small : (k : ℕ) (rows : List (List ℤ)) → all_of (all_of small) rows ≡ true → crossings_fit k rows ≡ true
unfolding crossings_fit
crossings_small k rows h =
    all_each (all_of small) (λ r. all_of (crossed_fits k r) (falling k rows)) (rising k rows)
    (λ r e. all_each (all_of small) (crossed_fits k r) (falling k rows) (λ s f. crossed_small k r s e f) (all_filtered (λ s. is_negative (entry s k)) (all_of small) rows h))
    (all_filtered (λ r. is_positive (entry r k)) (all_of small) rows h)

-- so a step may stop with its 4,097th row where it is brief, or all numbers are small
pub stopped : (brief : Bool) (k : ℕ) (rows kept : List (List ℤ)) → (brief || all_of (all_of small) rows) ≡ true → 4096 < length kept → FitsUnless brief kept (crossings_fit k rows)
stopped true k rows kept e h = unless_crowded true kept (crossings_fit k rows) refl h
stopped false k rows kept e h = fits_unless false kept (crossings_fit k rows) (crossings_small k rows e)
