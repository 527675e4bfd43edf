-- The greatest common divisor and numbers that share none.
use Rattle.std.proofs.Common.{◌≡◌, ℕ, zero, suc, ◌+◌, ◌*◌, ◌/◌, ◌%◌, ◌-◌, ◌<◌, ◌≤◌, refl, sym, subst, ap, arith}
use Rattle.std.proofs.Math.Nat.{mul-div-mul_left, mod-add-div, dvd-mul_left, mul_comm, mul-one, one-dvd, dvd-add, dvd-sub, dvd-mul_left_of_dvd, mul-div_cancel', mul-dvd-mul_left, dvd_of_mul-dvd-mul_left, pos_of_dvd_of_pos}
use Prim.Native.Nat.{◌∣◌}
use lib.IntN.{ℤ, pos, negsuc, ◌+ℤ◌}
use Rattle.std.specs.Prelude.{unsigned_abs}
use Rattle.std.proofs.lemmas.Int.{ints}
use Rattle.std.specs.Int.{IsGcd}
use Rattle.std.proofs.lemmas.Nat.Gcd.{IsGcd-from_zero, IsGcd-from_mod, same_from_IsGcd, le_of_dvd, dvd_trans, dvd-zero}
use Rattle.exact128.specs.Gcd.{gcd_within, gcd}

gcd_within-is : (n a b : ℕ) → b < n → IsGcd a b (gcd_within n a b)
unfolding gcd_within
gcd_within-is zero a b h = absurd (omega arith)
gcd_within-is (suc n) a zero h = IsGcd-from_zero a 0 refl
gcd_within-is (suc n) a (suc b) h =
    IsGcd-from_mod a (suc b) _ (gcd_within-is n (suc b) (a % suc b) (omega arith))

pub gcd_is : (a b : ℕ) → IsGcd a b (gcd a b)
unfolding gcd
gcd_is a b = gcd_within-is (suc b) a b (omega arith)

mul-mod-mul : (k a b : ℕ) → 0 < k → (k * a) % (k * b) ≡ k * (a % b)
mul-mod-mul k a b h =
    omega (arith, ap (λ n. k * n) (mod-add-div a b), mod-add-div (k * a) (k * b), ap (λ n. k * b * n) (mul-div-mul_left {m = k} a b h))

gcd_within-mul : (k n a b : ℕ) → 0 < k → b < n → IsGcd (k * a) (k * b) (k * gcd_within n a b)
unfolding gcd_within
gcd_within-mul k zero a b p h = absurd (omega arith)
gcd_within-mul k (suc n) a zero p h = IsGcd-from_zero (k * a) (k * 0) (omega arith)
gcd_within-mul k (suc n) a (suc b) p h =
    IsGcd-from_mod (k * a) (k * suc b) _
    (subst (λ r. IsGcd (k * suc b) r (k * gcd_within n (suc b) (a % suc b))) (sym (mul-mod-mul k a (suc b) p))
    (gcd_within-mul k n (suc b) (a % suc b) p (omega arith)))

pub IsGcd-mul : (k a b g : ℕ) → 0 < k → IsGcd a b g → IsGcd (k * a) (k * b) (k * g)
unfolding gcd
IsGcd-mul k a b g p h =
    subst (λ n. IsGcd (k * a) (k * b) (k * n)) (same_from_IsGcd a b (gcd a b) g (gcd_is a b) h)
    (gcd_within-mul k (suc b) a b p (omega arith))

-- a divisor of a product that shares nothing with one factor divides the other
pub dvd_of_coprime : (d m n : ℕ) → IsGcd d m 1 → d ∣ m * n → d ∣ n
dvd_of_coprime d m zero h e = dvd-zero d
dvd_of_coprime d m (suc n') h e =
    let n = suc n' in
    let g = IsGcd-mul n d m 1 (omega arith) h in
    subst (λ k. d ∣ k) (mul-one n) (g.2 d (dvd-mul_left d n) (subst (λ k. d ∣ k) (mul_comm m n) e))

-- one step of the loop
pub gcd-mod : (a b : ℕ) → gcd b (a % b) ≡ gcd a b
gcd-mod a b = same_from_IsGcd a b _ _ (IsGcd-from_mod a b _ (gcd_is b (a % b))) (gcd_is a b)

pub gcd-zero : (a b : ℕ) → b ≡ 0 → gcd a b ≡ a
gcd-zero a b e = same_from_IsGcd a b _ _ (gcd_is a b) (IsGcd-from_zero a b e)

-- numbers that share nothing with d: their product shares nothing with it
pub coprime_product : (d m n : ℕ) → IsGcd d m 1 → IsGcd d n 1 → IsGcd d (m * n) 1
coprime_product d m n h k = (
  h.0,
  one-dvd (m * n),
  λ e f g.
      let em : IsGcd e m 1 = (one-dvd e, one-dvd m, λ x y z. h.2 x (dvd_trans x y f) z) in
      k.2 e f (dvd_of_coprime e m n em g),
)

pub coprime_parts : (a b g : ℕ) → 0 < g → IsGcd a b g → IsGcd (a / g) (b / g) 1
coprime_parts a b g p h = (
  one-dvd (a / g),
  one-dvd (b / g),
  λ d x y.
      let ga : g * d ∣ a = subst (λ n. g * d ∣ n) (mul-div_cancel' g h.0) (mul-dvd-mul_left d g x) in
      let gb : g * d ∣ b = subst (λ n. g * d ∣ n) (mul-div_cancel' g h.1) (mul-dvd-mul_left d g y) in
      dvd_of_mul-dvd-mul_left {k = g} d p (subst (λ n. g * d ∣ n) (sym (mul-one g)) (h.2 (g * d) ga gb)),
)

pub gcd_pos : (a b g : ℕ) → 0 < b → IsGcd a b g → 0 < g
gcd_pos a b g p h = pos_of_dvd_of_pos h.1 p

pub gcd-pos : (a b : ℕ) → 0 < b → 0 < gcd a b
gcd-pos a b p = pos_of_dvd_of_pos (gcd_is a b).1 p

pub gcd-le : (a b : ℕ) → 0 < b → gcd a b ≤ b
gcd-le a b p = le_of_dvd p (gcd_is a b).1

-- a divisor of a sum and of one summand divides the other
pub dvd_summand : (e : ℕ) (x y z : ℤ) → z ≡ x +ℤ y → e ∣ unsigned_abs z → e ∣ unsigned_abs y → e ∣ unsigned_abs x
dvd_summand e x (pos m) (pos n) s f g =
    let is : unsigned_abs x ≡ (n - m) + (m - n) = omega (arith, ints) in
    subst (λ k. e ∣ k) (sym is) (dvd-add e (dvd-sub e f g) (dvd-sub e g f))
dvd_summand e x (negsuc m) (negsuc n) s f g =
    let is : unsigned_abs x ≡ (suc n - suc m) + (suc m - suc n) = omega (arith, ints) in
    subst (λ k. e ∣ k) (sym is) (dvd-add e (dvd-sub e f g) (dvd-sub e g f))
dvd_summand e x (pos m) (negsuc n) s f g =
    let is : unsigned_abs x ≡ suc n + m = omega (arith, ints) in
    subst (λ k. e ∣ k) (sym is) (dvd-add e f g)
dvd_summand e x (negsuc m) (pos n) s f g =
    let is : unsigned_abs x ≡ n + suc m = omega (arith, ints) in
    subst (λ k. e ∣ k) (sym is) (dvd-add e f g)

-- the numerator of a sum over the least common denominator g * b * d shares nothing with b
pub coprime_sum : (a b c d g : ℕ) (x y s : ℤ) →
    IsGcd a (g * b) 1 → IsGcd b d 1 → unsigned_abs x ≡ a * d → unsigned_abs y ≡ c * b → s ≡ x +ℤ y → IsGcd (unsigned_abs s) b 1
coprime_sum a b c d g x y s h k ex ey es = (
  one-dvd (unsigned_abs s),
  one-dvd b,
  λ e f q.
      let fx : e ∣ a * d =
      subst (λ n. e ∣ n) ex (dvd_summand e x y s es f (subst (λ n. e ∣ n) (sym ey) (dvd-mul_left_of_dvd e q c))) in
      let ed : IsGcd e d 1 = (one-dvd e, one-dvd d, λ u v w. k.2 u (dvd_trans u v q) w) in
      h.2 e (dvd_of_coprime e d a ed (subst (λ n. e ∣ n) (mul_comm a d) fx)) (dvd-mul_left_of_dvd e q g),
)
