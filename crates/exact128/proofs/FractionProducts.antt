-- The product of two fractions, each numerator freed of what it shares with the other denominator.
use Rattle.std.proofs.Common.{◌≡◌, ◌≢◌, ℕ, zero, suc, ℤ, pos, negsuc, ◌*◌, ◌/◌, ◌<◌, ◌*ℤ◌, Some, None, refl, sym, subst, ap, ◌∙◌, arith}
use Rattle.std.specs.Prelude.{◌≤ℤ◌, unsigned_abs, int_div}
use Rattle.std.specs.Int.{IsGcd}
use Prim.Native.Nat.{◌∣◌}
use Rattle.std.proofs.Math.Nat.{mul-div_cancel', dvd-mul_left, mul-pos}
use Rattle.std.proofs.lemmas.Nat.Gcd.{same_from_IsGcd, IsGcd-swap}
use Rattle.std.proofs.lemmas.Int.{ints, unsigned_abs-mul}
use Rattle.exact128.specs.Fits.{Fits}
use Rattle.exact128.specs.Gcd.{gcd}
use Rattle.exact128.specs.Fractions.{Fraction, shared_of, lowest, ratio}
use Rattle.exact128.proofs.Rings.{rings}
use Rattle.exact128.proofs.Gcds.{gcd_is, gcd_pos, coprime_parts, coprime_product}
use Rattle.exact128.proofs.FractionSums.{whole_part, exact_div, abs_div, abs_pos, coprime_below, pos_factor}
use Rattle.exact128.proofs.FractionFits.{lowest_only, ratio_some, ratio_none}

-- the fraction n / m, as the product of a / b and c / d
pub record IsProduct (a b c d n m : ℤ) : Type 0 where
  pub value : n *ℤ (b *ℤ d) ≡ (a *ℤ c) *ℤ m
  pub positive : pos 1 ≤ℤ m
  pub reduced : gcd (unsigned_abs n) (unsigned_abs m) ≡ 1
  pub lowest : lowest (a *ℤ c) (b *ℤ d) ≡ record { num = n; den = m }

value_of : (a b c d A B C D x y : ℤ) → a ≡ A *ℤ x → d ≡ x *ℤ D → c ≡ C *ℤ y → b ≡ y *ℤ B → (A *ℤ C) *ℤ (b *ℤ d) ≡ (a *ℤ c) *ℤ (B *ℤ D)
value_of a b c d A B C D x y ea ed ec eb =
    let one : (A *ℤ C) *ℤ ((y *ℤ B) *ℤ (x *ℤ D)) ≡ ((A *ℤ x) *ℤ (C *ℤ y)) *ℤ (B *ℤ D) = simp rings in
    rw (ea, ed, ec, eb) one

part_below : (g n : ℕ) → g ∣ n → n / g ∣ n
part_below g n h = subst (λ k. n / g ∣ k) (mul-div_cancel' g h) (dvd-mul_left (n / g) g)

-- parts of numbers that share nothing share nothing
coprime_both : (m n e f : ℕ) → e ∣ m → f ∣ n → IsGcd m n 1 → IsGcd e f 1
coprime_both m n e f de df h = IsGcd-swap f e 1 (coprime_below f n e df (IsGcd-swap e n 1 (coprime_below e m n de h)))

coprime_all : (a b c d x y : ℕ) → 0 < x → 0 < y → IsGcd a d x → IsGcd c b y → IsGcd a b 1 → IsGcd c d 1 → IsGcd ((a / x) * (c / y)) ((b / y) * (d / x)) 1
coprime_all a b c d x y px py ix iy hab hcd =
    let ad : IsGcd (a / x) (d / x) 1 = coprime_parts a d x px ix in
    let cb : IsGcd (c / y) (b / y) 1 = coprime_parts c b y py iy in
    let ab : IsGcd (a / x) (b / y) 1 = coprime_both a b (a / x) (b / y) (part_below x a ix.0) (part_below y b iy.1) hab in
    let cd : IsGcd (c / y) (d / x) 1 = coprime_both c d (c / y) (d / x) (part_below y c iy.0) (part_below x d ix.1) hcd in
    let left = coprime_product (a / x) (b / y) (d / x) ab ad in
    let right = coprime_product (c / y) (b / y) (d / x) cb cd in
    let bottom = (b / y) * (d / x) in
    IsGcd-swap bottom ((a / x) * (c / y)) 1 (coprime_product bottom (a / x) (c / y) (IsGcd-swap (a / x) bottom 1 left) (IsGcd-swap (c / y) bottom 1 right))

not_zero : (z : ℤ) → pos 1 ≤ℤ z → z ≢ pos 0
not_zero z p e = absurd (omega (arith, ints))

as_pos : (z : ℤ) → pos 1 ≤ℤ z → z ≡ pos (unsigned_abs z)
as_pos (pos n) p = refl
as_pos (negsuc n) p = absurd (omega (arith, ints))

pub product_is : (a b c d n m : ℤ) (x y : ℕ) → pos 1 ≤ℤ b → pos 1 ≤ℤ d → gcd (unsigned_abs a) (unsigned_abs b) ≡ 1 → gcd (unsigned_abs c) (unsigned_abs d) ≡ 1 →
    x ≡ shared_of a d → y ≡ shared_of c b →
    n ≡ int_div a (pos x) *ℤ int_div c (pos y) → m ≡ pos (unsigned_abs b / y) *ℤ pos (unsigned_abs d / x) → IsProduct a b c d n m
unfolding shared_of
product_is a b c d n m x y pb pd ra rc ex ey en em =
    let ix : IsGcd (unsigned_abs a) (unsigned_abs d) x = subst (IsGcd (unsigned_abs a) (unsigned_abs d)) (sym ex) (gcd_is (unsigned_abs a) (unsigned_abs d)) in
    let iy : IsGcd (unsigned_abs c) (unsigned_abs b) y = subst (IsGcd (unsigned_abs c) (unsigned_abs b)) (sym ey) (gcd_is (unsigned_abs c) (unsigned_abs b)) in
    let px : 0 < x = gcd_pos (unsigned_abs a) (unsigned_abs d) x (abs_pos d pd) ix in
    let py : 0 < y = gcd_pos (unsigned_abs c) (unsigned_abs b) y (abs_pos b pb) iy in
    let hab : IsGcd (unsigned_abs a) (unsigned_abs b) 1 = subst (IsGcd (unsigned_abs a) (unsigned_abs b)) ra (gcd_is (unsigned_abs a) (unsigned_abs b)) in
    let hcd : IsGcd (unsigned_abs c) (unsigned_abs d) 1 = subst (IsGcd (unsigned_abs c) (unsigned_abs d)) rc (gcd_is (unsigned_abs c) (unsigned_abs d)) in
    let value : n *ℤ (b *ℤ d) ≡ (a *ℤ c) *ℤ m = rw (en, em) (value_of a b c d (int_div a (pos x)) (pos (unsigned_abs b / y)) (int_div c (pos y)) (pos (unsigned_abs d / x)) (pos x) (pos y)
    (exact_div a x ix.0) (whole_part d x pd ix.1) (exact_div c y iy.0) (whole_part b y pb iy.1)) in
    let b1 : 0 < unsigned_abs b / y = pos_factor y (unsigned_abs b / y) (let e = mul-div_cancel' y iy.1 in omega (arith, e, abs_pos b pb)) in
    let d1 : 0 < unsigned_abs d / x = pos_factor x (unsigned_abs d / x) (let e = mul-div_cancel' x ix.1 in omega (arith, e, abs_pos d pd)) in
    let positive : pos 1 ≤ℤ m = omega (arith, ints, em, mul-pos b1 d1) in
    let an : unsigned_abs n ≡ (unsigned_abs a / x) * (unsigned_abs c / y) = ap unsigned_abs en ∙ unsigned_abs-mul (int_div a (pos x)) (int_div c (pos y)) ∙ rw (abs_div a x, abs_div c y) refl in
    let am : unsigned_abs m ≡ (unsigned_abs b / y) * (unsigned_abs d / x) = ap unsigned_abs em ∙ unsigned_abs-mul (pos (unsigned_abs b / y)) (pos (unsigned_abs d / x)) in
    let all = coprime_all (unsigned_abs a) (unsigned_abs b) (unsigned_abs c) (unsigned_abs d) x y px py ix iy hab hcd in
    let reduced : gcd (unsigned_abs n) (unsigned_abs m) ≡ 1 = rw (an, am) (same_from_IsGcd _ _ _ _ (gcd_is ((unsigned_abs a / x) * (unsigned_abs c / y)) ((unsigned_abs b / y) * (unsigned_abs d / x))) all) in
    record {
      value = value;
      positive = positive;
      reduced = reduced;
      lowest = lowest_is n m (b *ℤ d) (a *ℤ c) (some_product b d pb pd) positive reduced value;
    }
  where
    some_product : (b d : ℤ) → pos 1 ≤ℤ b → pos 1 ≤ℤ d → b *ℤ d ≢ pos 0
    some_product (pos (suc b)) (pos (suc d)) p q e = absurd (omega (arith, ints, e))
    some_product (pos zero) d p q e = absurd (omega (arith, ints))
    some_product (negsuc b) d p q e = absurd (omega (arith, ints))
    some_product (pos (suc b)) (pos zero) p q e = absurd (omega (arith, ints))
    some_product (pos (suc b)) (negsuc d) p q e = absurd (omega (arith, ints))

    lowest_is : (n m b a : ℤ) → b ≢ pos 0 → pos 1 ≤ℤ m → gcd (unsigned_abs n) (unsigned_abs m) ≡ 1 → n *ℤ b ≡ a *ℤ m → lowest a b ≡ record { num = n; den = m }
    lowest_is n m b a h p r v =
        let em = as_pos m p in
        lowest_only n a b (unsigned_abs m) h (abs_pos m p) r (v ∙ ap (λ z. a *ℤ z) em) ∙ ap (λ z. record { num = n; den = z }) (sym em)

-- what the product gives where each of its two numbers fits, and where one does not
pub product_made : (a b n m : ℤ) → lowest a b ≡ record { num = n; den = m } → Fits n → Fits m → ratio a b ≡ Some (record { num = n; den = m })
product_made a b n m e fn fm =
    ratio_some a b (record { num = subst Fits (sym (ap (λ (f : Fraction). f.num) e)) fn; den = subst Fits (sym (ap (λ (f : Fraction). f.den) e)) fm }) ∙ ap Some e

pub product_num_wide : (a b n m : ℤ) → lowest a b ≡ record { num = n; den = m } → ¬ Fits n → ratio a b ≡ None
product_num_wide a b n m e out = ratio_none a b (λ f. out (subst Fits (ap (λ (f : Fraction). f.num) e) f.num))

pub product_den_wide : (a b n m : ℤ) → lowest a b ≡ record { num = n; den = m } → ¬ Fits m → ratio a b ≡ None
product_den_wide a b n m e out = ratio_none a b (λ f. out (subst Fits (ap (λ (f : Fraction). f.den) e) f.den))
