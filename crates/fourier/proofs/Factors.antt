-- The factors with which two rows are crossed.
use Rattle.std.proofs.Common.{◌≡◌, ℕ, zero, suc, ℤ, pos, negsuc, List, ◌/◌, length, refl, sym, subst, ap, ◌∙◌}
use Rattle.std.specs.Prelude.{unsigned_abs}
use lib.IntN.{neg_ℤ}
use Rattle.exact128.specs.Gcd.{gcd}
use Rattle.exact128.specs.Sums.{entry}
use Rattle.linear_rows.specs.Elimination.{crossed}
use Rattle.linear_rows.specs.Blown.{blend_fits, crossed_fits}
use Rattle.sparse_rows.specs.Blending.{blended}

abs_neg : (z : ℤ) → unsigned_abs (neg_ℤ z) ≡ unsigned_abs z
abs_neg (pos zero) = refl
abs_neg (pos (suc n)) = refl
abs_neg (negsuc n) = refl

pub crossed_is : (k : ℕ) (r s : List ℤ) (up down : ℤ) (g : ℕ) → up ≡ entry r k → down ≡ neg_ℤ (entry s k) → g ≡ gcd (unsigned_abs up) (unsigned_abs down) →
    blended (pos (unsigned_abs down / g)) (pos (unsigned_abs up / g)) r s ≡ crossed k r s
unfolding crossed
crossed_is k r s up down g eu ed eg =
    let a : unsigned_abs down ≡ unsigned_abs (entry s k) = ap unsigned_abs ed ∙ abs_neg (entry s k) in
    let b : unsigned_abs up ≡ unsigned_abs (entry r k) = ap unsigned_abs eu in
    let c : g ≡ gcd (unsigned_abs (entry r k)) (unsigned_abs (entry s k)) = rw (a, b) at eg in
    rw (c, a, b) refl

crossed_blend : (k : ℕ) (r s : List ℤ) (up down : ℤ) (g : ℕ) → up ≡ entry r k → down ≡ neg_ℤ (entry s k) → g ≡ gcd (unsigned_abs up) (unsigned_abs down) →
    blend_fits (pos (unsigned_abs down / g)) (pos (unsigned_abs up / g)) r s ≡ crossed_fits k r s
unfolding crossed_fits
crossed_blend k r s up down g eu ed eg =
    let a : unsigned_abs down ≡ unsigned_abs (entry s k) = ap unsigned_abs ed ∙ abs_neg (entry s k) in
    let b : unsigned_abs up ≡ unsigned_abs (entry r k) = ap unsigned_abs eu in
    let c : g ≡ gcd (unsigned_abs (entry r k)) (unsigned_abs (entry s k)) = rw (a, b) at eg in
    rw (c, a, b) refl

-- the two factors, as the code forms them
pub record Factors (k : ℕ) (r s : List ℤ) (a b : ℤ) : Type 0 where
  pub row : blended a b r s ≡ crossed k r s
  pub fit : blend_fits a b r s ≡ crossed_fits k r s

pub factors : (k : ℕ) (r s : List ℤ) (up down a b : ℤ) (g x y : ℕ) → length r ≡ length s → up ≡ entry r k → down ≡ neg_ℤ (entry s k) → x ≡ unsigned_abs up → y ≡ unsigned_abs down → g ≡ gcd x y →
    a ≡ pos (unsigned_abs down / g) → b ≡ pos (unsigned_abs up / g) → Factors k r s a b
factors k r s up down a b g x y el eu ed ex ey eg ea eb =
    let e : g ≡ gcd (unsigned_abs up) (unsigned_abs down) = cc in
    subst (λ z. Factors k r s z b) (sym ea) (subst (λ z. Factors k r s (pos (unsigned_abs down / g)) z) (sym eb) (record {
      row = crossed_is k r s up down g eu ed e;
      fit = crossed_blend k r s up down g eu ed e;
    }))
