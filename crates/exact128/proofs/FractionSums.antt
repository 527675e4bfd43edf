-- The sum of two fractions, over plain variables.
use Rattle.std.proofs.Common.{◌≡◌, ℕ, ℤ, pos, negsuc, zero, suc, ◌*◌, ◌/◌, ◌<◌, ◌+ℤ◌, ◌*ℤ◌, refl, sym, subst, ap, ◌∙◌, arith}
use Rattle.std.specs.Prelude.{◌≤ℤ◌, unsigned_abs, int_div}
use Rattle.std.specs.Int.{IsGcd}
use Prim.Native.Nat.{◌∣◌}
use lib.IntN.{neg_ℤ, +ℤ_comm}
use borrow.Author.Differences.{neg_is}
use Rattle.std.proofs.Math.Nat.{mul-div_cancel', mul_comm, mul-pos, div-mul_cancel, mul-div_assoc, dvd-mul_left, one-dvd}
use Rattle.std.proofs.lemmas.Nat.Gcd.{dvd_trans, same_from_IsGcd, IsGcd-swap}
use Rattle.std.proofs.lemmas.Int.{ints, unsigned_abs-mul}
use Rattle.exact128.specs.Fits.{Fits}
use Rattle.exact128.specs.Gcd.{gcd}
use Rattle.exact128.proofs.Rings.{rings, neg-mul}
use Rattle.exact128.proofs.Gcds.{coprime_sum, coprime_product, coprime_parts, gcd_is, gcd_pos}
use Rattle.exact128.specs.Fractions.{shared_of, scaled_of, sum_of, again_of, bottom_of}

-- the value: B and D are the denominators, which share G, and H is taken from D once more
value_core : (a c s n B D B1 D1 D2 G H : ℤ) → B ≡ G *ℤ B1 → D ≡ G *ℤ D1 → D ≡ H *ℤ D2 → s ≡ a *ℤ D1 +ℤ c *ℤ B1 → s ≡ n *ℤ H →
    n *ℤ (B *ℤ D) ≡ (a *ℤ D +ℤ c *ℤ B) *ℤ (B1 *ℤ D2)
value_core a c s n B D B1 D1 D2 G H eB eD eD2 es en =
    let one : n *ℤ ((G *ℤ B1) *ℤ (H *ℤ D2)) ≡ (n *ℤ H) *ℤ (G *ℤ (B1 *ℤ D2)) = simp rings (omega (arith, ints)) in
    let two : (a *ℤ D1 +ℤ c *ℤ B1) *ℤ (G *ℤ (B1 *ℤ D2)) ≡ (a *ℤ (G *ℤ D1) +ℤ c *ℤ (G *ℤ B1)) *ℤ (B1 *ℤ D2) = simp rings (omega (arith, ints)) in
    cc

-- a positive number is what a divisor goes into it, times the divisor
pub whole_part : (b : ℤ) (g : ℕ) → pos 1 ≤ℤ b → g ∣ unsigned_abs b → b ≡ pos g *ℤ pos (unsigned_abs b / g)
whole_part (pos n) g p h = ap pos (sym (mul-div_cancel' g h))
whole_part (negsuc n) g p h = absurd (omega (arith, ints))

pub exact_div : (s : ℤ) (h : ℕ) → h ∣ unsigned_abs s → s ≡ int_div s (pos h) *ℤ pos h
exact_div (pos n) h e = ap pos (sym (div-mul_cancel h e))
exact_div (negsuc n) h e = sym (neg-mul (pos (suc n / h)) (pos h) ∙ ap (λ k. neg_ℤ (pos k)) (div-mul_cancel h e))

pub abs_div : (s : ℤ) (h : ℕ) → unsigned_abs (int_div s (pos h)) ≡ unsigned_abs s / h
abs_div (pos n) h = refl
abs_div (negsuc n) h = omega (arith, ints, neg_is (pos (suc n / h)))

pub sum_value : (a b c d : ℤ) → pos 1 ≤ℤ b → pos 1 ≤ℤ d →
    let s = sum_of a b c d in
    int_div s (pos (again_of s b d)) *ℤ (b *ℤ d) ≡ (a *ℤ d +ℤ c *ℤ b) *ℤ bottom_of s b d
unfolding shared_of scaled_of again_of bottom_of sum_of
sum_value a b c d pb pd =
    let g = shared_of b d in
    let s = sum_of a b c d in
    let h = again_of s b d in
    let isg = gcd_is (unsigned_abs b) (unsigned_abs d) in
    let ish = gcd_is (unsigned_abs s) g in
    value_core a c s (int_div s (pos h)) b d (pos (unsigned_abs b / g)) (pos (unsigned_abs d / g)) (pos (unsigned_abs d / h)) (pos g) (pos h)
    (whole_part b g pb isg.0)
    (whole_part d g pd isg.1)
    (whole_part d h pd (dvd_trans h ish.1 isg.1))
    refl
    (exact_div s h ish.0)

-- what divides a number shares nothing with what that number shares nothing with
pub coprime_below : (e m n : ℕ) → e ∣ m → IsGcd m n 1 → IsGcd e n 1
coprime_below e m n d h = (one-dvd e, one-dvd n, λ u v w. h.2 u (dvd_trans u v d) w)

coprime_core : (s b d g h : ℕ) → 0 < g → IsGcd s g h → IsGcd s b 1 → IsGcd s d 1 → IsGcd (s / h) (b * ((d * g) / h)) 1
coprime_core s b d g h p is kb kd =
    let hp = gcd_pos s g h p is in
    let part : s / h ∣ s = subst (λ n. s / h ∣ n) (mul-div_cancel' h is.0) (dvd-mul_left (s / h) h) in
    let parts = coprime_parts s g h hp is in
    rw (mul-div_assoc h d is.1)
    (coprime_product (s / h) b (d * (g / h)) (coprime_below _ s b part kb)
    (coprime_product (s / h) d (g / h) (coprime_below _ s d part kd) parts))

pub abs_pos : (b : ℤ) → pos 1 ≤ℤ b → 0 < unsigned_abs b
abs_pos b p = omega (arith, ints)

sum_reduced : (a b c d : ℤ) → pos 1 ≤ℤ b → pos 1 ≤ℤ d → gcd (unsigned_abs a) (unsigned_abs b) ≡ 1 → gcd (unsigned_abs c) (unsigned_abs d) ≡ 1 →
    let s = sum_of a b c d in
    gcd (unsigned_abs (int_div s (pos (again_of s b d)))) (unsigned_abs (bottom_of s b d)) ≡ 1
unfolding shared_of scaled_of again_of bottom_of sum_of
sum_reduced a b c d pb pd ra rc =
    let g = shared_of b d in
    let s = sum_of a b c d in
    let h = again_of s b d in
    let isg = gcd_is (unsigned_abs b) (unsigned_abs d) in
    let ish = gcd_is (unsigned_abs s) g in
    let gp : 0 < g = gcd_pos (unsigned_abs b) (unsigned_abs d) g (abs_pos d pd) isg in
    let b1 = unsigned_abs b / g in
    let d1 = unsigned_abs d / g in
    let x = a *ℤ pos d1 in
    let y = c *ℤ pos b1 in
    let eb : g * b1 ≡ unsigned_abs b = mul-div_cancel' g isg.0 in
    let ed : g * d1 ≡ unsigned_abs d = mul-div_cancel' g isg.1 in
    let ka : IsGcd (unsigned_abs a) (g * b1) 1 = subst (λ n. IsGcd (unsigned_abs a) n 1) (sym eb) (subst (λ n. IsGcd (unsigned_abs a) (unsigned_abs b) n) ra (gcd_is _ _)) in
    let kc : IsGcd (unsigned_abs c) (g * d1) 1 = subst (λ n. IsGcd (unsigned_abs c) n 1) (sym ed) (subst (λ n. IsGcd (unsigned_abs c) (unsigned_abs d) n) rc (gcd_is _ _)) in
    let bd : IsGcd b1 d1 1 = coprime_parts (unsigned_abs b) (unsigned_abs d) g gp isg in
    let ex = unsigned_abs-mul a (pos d1) in
    let ey = unsigned_abs-mul c (pos b1) in
    let kb = coprime_sum (unsigned_abs a) b1 (unsigned_abs c) d1 g x y s ka bd ex ey refl in
    let kd = coprime_sum (unsigned_abs c) d1 (unsigned_abs a) b1 g y x s kc (IsGcd-swap b1 d1 1 bd) ey ex (+ℤ_comm x y) in
    let core = coprime_core (unsigned_abs s) b1 d1 g h gp ish kb kd in
    let whole : d1 * g ≡ unsigned_abs d = mul_comm d1 g ∙ ed in
    let k = subst (λ n. IsGcd (unsigned_abs s / h) (b1 * (n / h)) 1) whole core in
    rw (abs_div s h) (same_from_IsGcd _ _ _ _ (gcd_is (unsigned_abs s / h) (b1 * (unsigned_abs d / h))) k)

-- what `add` has to show of the fraction that it makes
pub record IsSum (a b c d num den : ℤ) : Type 0 where
  pub value : num *ℤ (b *ℤ d) ≡ (a *ℤ d +ℤ c *ℤ b) *ℤ den
  pub positive : pos 1 ≤ℤ den
  pub num_fits : Fits num
  pub reduced : gcd (unsigned_abs num) (unsigned_abs den) ≡ 1

pub pos_factor : (m k : ℕ) → 0 < m * k → 0 < k
pos_factor m zero p = absurd (omega arith)
pos_factor m (suc k) p = omega arith

pub bottom_pos : (s b d : ℤ) → pos 1 ≤ℤ b → pos 1 ≤ℤ d → pos 1 ≤ℤ bottom_of s b d
unfolding shared_of scaled_of again_of bottom_of
bottom_pos s b d pb pd =
    let g = shared_of b d in
    let h = again_of s b d in
    let isg = gcd_is (unsigned_abs b) (unsigned_abs d) in
    let ish = gcd_is (unsigned_abs s) g in
    let gp : 0 < g = gcd_pos (unsigned_abs b) (unsigned_abs d) g (abs_pos d pd) isg in
    let hp : 0 < h = gcd_pos (unsigned_abs s) g h gp ish in
    let eb : g * (unsigned_abs b / g) ≡ unsigned_abs b = mul-div_cancel' g isg.0 in
    let ed : h * (unsigned_abs d / h) ≡ unsigned_abs d = mul-div_cancel' h (dvd_trans h ish.1 isg.1) in
    let b1 : 0 < unsigned_abs b / g = pos_factor g (unsigned_abs b / g) (omega (arith, eb, abs_pos b pb)) in
    let d1 : 0 < unsigned_abs d / h = pos_factor h (unsigned_abs d / h) (omega (arith, ed, abs_pos d pd)) in
    omega (arith, ints, mul-pos b1 d1)

pub sum_is : (a b c d s num den : ℤ) (g h : ℕ) → pos 1 ≤ℤ b → pos 1 ≤ℤ d → gcd (unsigned_abs a) (unsigned_abs b) ≡ 1 → gcd (unsigned_abs c) (unsigned_abs d) ≡ 1 →
    g ≡ shared_of b d → s ≡ scaled_of a d g +ℤ scaled_of c b g → Fits s → h ≡ gcd (unsigned_abs s) g →
    den ≡ scaled_of (pos (unsigned_abs b / g)) d h → num ≡ int_div s (pos h) → IsSum a b c d num den
unfolding again_of sum_of bottom_of
sum_is a b c d s num den g h pb pd ra rc eg es fs eh ed en =
    let es' : s ≡ sum_of a b c d = rw eg at es in
    let fs' : Fits (sum_of a b c d) = rw es' at fs in
    let eh' : h ≡ again_of (sum_of a b c d) b d = rw (eg, es') at eh in
    let ed' : den ≡ bottom_of (sum_of a b c d) b d = rw (eg, eh') at ed in
    let en' : num ≡ int_div (sum_of a b c d) (pos (again_of (sum_of a b c d) b d)) = rw (es', eh') at en in
    rw (en', ed') (record {
      value = sum_value a b c d pb pd;
      positive = bottom_pos (sum_of a b c d) b d pb pd;
      num_fits = omega (arith, abs_div (sum_of a b c d) (again_of (sum_of a b c d) b d), fs');
      reduced = sum_reduced a b c d pb pd ra rc;
    })
