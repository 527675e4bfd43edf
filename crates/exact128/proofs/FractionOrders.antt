-- Two fractions compare as their numerators over a common denominator.
use Rattle.std.proofs.Common.{◌≡◌, ℕ, zero, suc, ℤ, pos, ◌/◌, ◌<◌, ◌*ℤ◌, Bool, true, false, refl, sym, ap, ◌∙◌, arith}
use Rattle.std.specs.Prelude.{◌≤ℤ◌, ◌<ℤ◌, unsigned_abs, int_lt}
use Rattle.std.specs.Ordering.{int_cmp}
use Rattle.std.proofs.lemmas.Int.{ints}
use Rattle.std.proofs.Math.Nat.{mul-le-mul_right}
use borrow.Author.Differences.{lt-true, lt-false}
use Rattle.exact128.proofs.Rings.{rings}
use Rattle.exact128.proofs.Gcds.{gcd_is, gcd_pos}
use Rattle.exact128.specs.Fractions.{shared_of, scaled_of}
use Rattle.exact128.proofs.FractionSums.{whole_part, abs_pos}

pub lt_times : (x y : ℤ) (n : ℕ) (b : Bool) → int_lt x y ≡ b → int_lt (x *ℤ pos (suc n)) (y *ℤ pos (suc n)) ≡ b
lt_times x y n true e = let f = mul-le-mul_right (suc n) (lt-true x y e) in let h : (x *ℤ pos (suc n)) <ℤ (y *ℤ pos (suc n)) = omega (arith, ints, f) in search (arith, ints)
lt_times x y n false e = let f = mul-le-mul_right (suc n) (lt-false x y e) in let h : (y *ℤ pos (suc n)) ≤ℤ (x *ℤ pos (suc n)) = omega (arith, ints, f) in search (arith, ints)

cmp_times : (x y : ℤ) (g : ℕ) → 0 < g → int_cmp (x *ℤ pos g) (y *ℤ pos g) ≡ int_cmp x y
cmp_times x y zero p = absurd (omega arith)
cmp_times x y (suc n) p = rw (lt_times x y n (int_lt x y) refl, lt_times y x n (int_lt y x) refl) refl

turn : (x y z : ℤ) → (x *ℤ y) *ℤ z ≡ x *ℤ (z *ℤ y)
turn x y z = simp rings

pub same_order : (a b c d left right : ℤ) (g : ℕ) → pos 1 ≤ℤ b → pos 1 ≤ℤ d → g ≡ shared_of b d → left ≡ scaled_of a d g → right ≡ scaled_of c b g →
    int_cmp left right ≡ int_cmp (a *ℤ d) (c *ℤ b)
unfolding shared_of scaled_of
same_order a b c d left right g pb pd eg el er =
    let is = gcd_is (unsigned_abs b) (unsigned_abs d) in
    let h = shared_of b d in
    let hp : 0 < h = gcd_pos (unsigned_abs b) (unsigned_abs d) h (abs_pos d pd) is in
    let eb = whole_part b h pb is.0 in
    let ed = whole_part d h pd is.1 in
    let l : (a *ℤ pos (unsigned_abs d / h)) *ℤ pos h ≡ a *ℤ d = turn a (pos (unsigned_abs d / h)) (pos h) ∙ ap (λ z. a *ℤ z) (sym ed) in
    let r : (c *ℤ pos (unsigned_abs b / h)) *ℤ pos h ≡ c *ℤ b = turn c (pos (unsigned_abs b / h)) (pos h) ∙ ap (λ z. c *ℤ z) (sym eb) in
    let same = cmp_times (a *ℤ pos (unsigned_abs d / h)) (c *ℤ pos (unsigned_abs b / h)) h hp in
    rw (el, er, eg) (sym (rw (l, r) at same))
