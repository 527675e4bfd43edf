-- What the tests of rows come to.
use Rattle.std.proofs.Common.{◌≡◌, ℕ, zero, suc, ℤ, pos, negsuc, List, [], ◌∷◌, ◌++◌, ◌+◌, ◌<◌, ◌^◌, Bool, true, false, map, take, drop, length, refl, sym, subst, ap, ◌∙◌, arith}
use Rattle.std.specs.Prelude.{neg_ℤ, All, unsigned_abs, int_le}
use Rattle.std.specs.Cmp.Derive.{both_true}
use Rattle.exact128.specs.Fits.{Fits}
use Rattle.exact128.specs.Gcd.{gcd}
use Rattle.exact128.proofs.Gcds.{gcd-zero, gcd-le}
use Rattle.linear_rows.specs.Elimination.{is_zero}
use Rattle.exact128.specs.Sums.{entry}
use Rattle.linear_rows.specs.Cleaning.{row_gcd, agree, is_trivial, int_same}
use Rattle.linear_rows.specs.Equation.{negates}
use Rattle.linear_rows.proofs.Cleanings.{same_to, agree_at}
use Rattle.linear_rows.proofs.Equations.{negates_at}

pub either_bool : (b : Bool) → (b ≡ true → ⊥) → b ≡ false
either_bool true h = absurd (h refl)
either_bool false h = refl

pub agree_from : (m : ℕ) (r s : List ℤ) → ((j : ℕ) → j < m → int_same (entry r (j + 1)) (entry s (j + 1)) ≡ true) → agree m r s ≡ true
agree_from zero r s h = refl
agree_from (suc m) r s h =
    let one : m + 1 ≡ suc m = omega arith in
    both_true (subst (λ k. int_same (entry r k) (entry s k) ≡ true) one (h m (omega arith))) (agree_from m r s (λ j l. h j (omega arith)))

pub agree_not : (m : ℕ) (r s : List ℤ) (j : ℕ) → j < m → int_same (entry r (j + 1)) (entry s (j + 1)) ≡ false → agree m r s ≡ false
agree_not m r s j l h = either_bool (agree m r s) (λ e. let t = same_to (entry r (j + 1)) (entry s (j + 1)) (agree_at m r s (j + 1) e (omega arith) (omega arith)) in cc)

pub negates_from : (m : ℕ) (r s : List ℤ) → ((j : ℕ) → j < m → int_same (entry s j) (neg_ℤ (entry r j)) ≡ true) → negates m r s ≡ true
negates_from zero r s h = refl
negates_from (suc m) r s h = both_true (h m (omega arith)) (negates_from m r s (λ j l. h j (omega arith)))

pub negates_not : (m : ℕ) (r s : List ℤ) (j : ℕ) → j < m → int_same (entry s j) (neg_ℤ (entry r j)) ≡ false → negates m r s ≡ false
negates_not m r s j l h = either_bool (negates m r s) (λ e. let t = same_to (entry s j) (neg_ℤ (entry r j)) (negates_at m r s j e l) in cc)

pub zero_same : (z : ℤ) → is_zero z ≡ int_same z (pos 0)
zero_same (pos zero) = refl
zero_same (pos (suc n)) = grind arith
zero_same (negsuc n) = refl

pub trivial_is : (m : ℕ) (row : List ℤ) → ((j : ℕ) → j < m → is_zero (entry row (j + 1)) ≡ true) → int_le (pos 0) (entry row 0) ≡ is_trivial m row
trivial_is m row h = rw (agree_from m row [] (λ j l. sym (zero_same (entry row (j + 1))) ∙ h j l)) refl

pub trivial_not : (m : ℕ) (row : List ℤ) (j : ℕ) → j < m → is_zero (entry row (j + 1)) ≡ false → is_trivial m row ≡ false
trivial_not m row j l h = rw (agree_not m row [] j l (sym (zero_same (entry row (j + 1))) ∙ h)) refl

gcd_fits : (a g : ℕ) → a < 2 ^ 127 → g < 2 ^ 127 → gcd a g < 2 ^ 127
gcd_fits a zero h k = rw (gcd-zero a 0 refl) h
gcd_fits a (suc g) h k = let l = gcd-le a (suc g) (omega arith) in omega arith

pub row_gcd_fits : (row : List ℤ) → All Fits row → row_gcd row < 2 ^ 127
unfolding row_gcd
row_gcd_fits [] h = omega arith
row_gcd_fits (x ∷ xs) h = gcd_fits (unsigned_abs x) (row_gcd xs) (h 0 x (omega arith)) (row_gcd_fits xs (λ k d l. h (suc k) d (omega arith)))

pub entry_fits : (row : List ℤ) (j : ℕ) → All Fits row → Fits (entry row j)
entry_fits [] j h = omega arith
entry_fits (x ∷ xs) zero h = h 0 (pos 0) (omega arith)
entry_fits (x ∷ xs) (suc j) h = entry_fits xs j (λ k d l. h (suc k) d (omega arith))

pub gcd_before : (i : ℕ) (row : List ℤ) (x : ℤ) (g : ℕ) → i < length row → x ≡ entry row i → g ≡ row_gcd (drop (suc i) row) → gcd (unsigned_abs x) g ≡ row_gcd (drop i row)
unfolding row_gcd
gcd_before i [] x g h ex eg = absurd (omega arith)
gcd_before zero (y ∷ ys) x g h ex eg = rw (ex, eg) refl
gcd_before (suc i) (y ∷ ys) x g h ex eg = gcd_before i ys x g (omega arith) ex eg

pub gcd_end : (row : List ℤ) → 0 ≡ row_gcd (drop (length row) row)
unfolding row_gcd
gcd_end [] = refl
gcd_end (x ∷ xs) = gcd_end xs

pub map_more : (f : ℤ → ℤ) (row : List ℤ) (i : ℕ) (x : ℤ) → i < length row → x ≡ f (entry row i) → map f (take i row) ++ x ∷ [] ≡ map f (take (i + 1) row)
map_more f [] i x h e = absurd (omega arith)
map_more f (y ∷ ys) zero x h e = ap (λ z. z ∷ []) e
map_more f (y ∷ ys) (suc i) x h e =
    let one : suc i + 1 ≡ suc (i + 1) = omega arith in
    ap (λ l. f y ∷ l) (map_more f ys i x (omega arith) e) ∙ ap (λ k. map f (take k (y ∷ ys))) (sym one)
