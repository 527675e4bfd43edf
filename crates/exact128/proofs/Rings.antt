-- Laws of whole numbers.
use Rattle.std.proofs.Common.{◌≡◌, ℕ, ℤ, pos, negsuc, zero, suc, ◌*◌, ◌+ℤ◌, ◌*ℤ◌, ◌-ℤ◌, sym, ap, ◌∙◌, arith}
use Rattle.std.specs.Prelude.{◌≤ℤ◌}
use Rattle.std.proofs.lemmas.Int.{ints}
use borrow.Author.Differences.{up, down, sum_is_lem, product_is, neg_is, le_out}
use Rattle.std.proofs.Math.Nat.{mul-le-mul_right}
use lib.IntN.{neg_ℤ, *ℤ_comm}

pub mul-add : (a b c : ℤ) → a *ℤ (b +ℤ c) ≡ a *ℤ b +ℤ a *ℤ c
mul-add a b c =
    let s = sum_is_lem b c in
    omega (arith, ints, ap (λ n. up a * n) s, ap (λ n. down a * n) s)

pub add-mul : (b c a : ℤ) → (b +ℤ c) *ℤ a ≡ b *ℤ a +ℤ c *ℤ a
add-mul b c a =
    let s = sum_is_lem b c in
    omega (arith, ints, ap (λ n. up a * n) s, ap (λ n. down a * n) s)

pub mul-neg : (a b : ℤ) → a *ℤ neg_ℤ b ≡ neg_ℤ (a *ℤ b)
mul-neg a b =
    let s = neg_is b in
    omega (arith, ints, ap (λ n. up a * n) s.0, ap (λ n. down a * n) s.0, ap (λ n. up a * n) s.1, ap (λ n. down a * n) s.1)

pub mul_assoc : (a b c : ℤ) → (a *ℤ b) *ℤ c ≡ a *ℤ (b *ℤ c)
mul_assoc a b c =
    let p = product_is a b in
    let q = product_is b c in
    omega (
      arith,
      ints,
      ap (λ n. n * up c) p.0,
      ap (λ n. n * down c) p.0,
      ap (λ n. n * up c) p.1,
      ap (λ n. n * down c) p.1,
      ap (λ n. up a * n) q.0,
      ap (λ n. down a * n) q.0,
      ap (λ n. up a * n) q.1,
      ap (λ n. down a * n) q.1,
    )

pub mul_left_comm : (a b c : ℤ) → a *ℤ (b *ℤ c) ≡ b *ℤ (a *ℤ c)
mul_left_comm a b c = sym (mul_assoc a b c) ∙ ap (λ x. x *ℤ c) (*ℤ_comm a b) ∙ mul_assoc b a c

pub neg-mul : (a b : ℤ) → neg_ℤ a *ℤ b ≡ neg_ℤ (a *ℤ b)
neg-mul a b = *ℤ_comm (neg_ℤ a) b ∙ mul-neg b a ∙ ap neg_ℤ (*ℤ_comm b a)

-- sums of products, the factors of each in one order: then `omega (arith, ints)` compares two of them
pub ruleset rings = (mul-add, add-mul, mul-neg, neg-mul, mul_assoc, *ℤ_comm, mul_left_comm)

pub mul_nonneg : (a b : ℤ) → pos 0 ≤ℤ a → pos 0 ≤ℤ b → pos 0 ≤ℤ (a *ℤ b)
mul_nonneg (pos a) (pos b) p q = omega (arith, ints)
mul_nonneg (pos a) (negsuc b) p q = absurd (omega (arith, ints))
mul_nonneg (negsuc a) b p q = absurd (omega (arith, ints))

pub mul_nonneg2 : (k : ℕ) (b : ℤ) → pos 0 ≤ℤ b → pos 0 ≤ℤ (pos k *ℤ b)
mul_nonneg2 k b q = mul_nonneg (pos k) b (omega (arith, ints)) q

pub mul_mono : (x y : ℤ) (p : ℕ) → x ≤ℤ y → (x *ℤ pos p) ≤ℤ (y *ℤ pos p)
mul_mono x y p h = omega (arith, ints, mul-le-mul_right p (le_out x y h))

pub nonneg_factor : (n : ℕ) (v : ℤ) → pos 0 ≤ℤ (pos (suc n) *ℤ v) → pos 0 ≤ℤ v
nonneg_factor n (pos v) h = omega (arith, ints)
nonneg_factor n (negsuc v) h = absurd (omega (arith, ints))

-- ---- order and products
pub mul_le : (a x y : ℤ) → pos 0 ≤ℤ a → x ≤ℤ y → (a *ℤ x) ≤ℤ (a *ℤ y)
mul_le a x y p h =
    let d : pos 0 ≤ℤ (y -ℤ x) = omega (arith, ints) in
    let e : a *ℤ (y -ℤ x) ≡ a *ℤ y -ℤ a *ℤ x = simp rings (omega (arith, ints)) in
    let f = mul_nonneg a (y -ℤ x) p d in
    omega (arith, ints, rw e at f)

pub mul_cancel : (a x y : ℤ) → pos 1 ≤ℤ a → (a *ℤ x) ≤ℤ (a *ℤ y) → x ≤ℤ y
mul_cancel (pos zero) x y p h = absurd (omega (arith, ints))
mul_cancel (pos (suc n)) x y p h =
    let e : pos (suc n) *ℤ (y -ℤ x) ≡ pos (suc n) *ℤ y -ℤ pos (suc n) *ℤ x = simp rings (omega (arith, ints)) in
    let f : pos 0 ≤ℤ (pos (suc n) *ℤ (y -ℤ x)) = rw e (omega (arith, ints)) in
    let g = nonneg_factor n (y -ℤ x) f in
    omega (arith, ints)
mul_cancel (negsuc n) x y p h = absurd (omega (arith, ints))

-- x / a is at most y / b, and that at most z / c
pub cross_trans : (a b c x y z : ℤ) → pos 1 ≤ℤ a → pos 1 ≤ℤ b → pos 1 ≤ℤ c → (b *ℤ x) ≤ℤ (a *ℤ y) → (c *ℤ y) ≤ℤ (b *ℤ z) → (c *ℤ x) ≤ℤ (a *ℤ z)
cross_trans a b c x y z pa pb pc h k =
    let one = mul_le c (b *ℤ x) (a *ℤ y) (omega (arith, ints)) h in
    let two = mul_le a (c *ℤ y) (b *ℤ z) (omega (arith, ints)) k in
    let e1 : c *ℤ (b *ℤ x) ≡ b *ℤ (c *ℤ x) = simp rings in
    let e2 : c *ℤ (a *ℤ y) ≡ a *ℤ (c *ℤ y) = simp rings in
    let e3 : a *ℤ (b *ℤ z) ≡ b *ℤ (a *ℤ z) = simp rings in
    mul_cancel b (c *ℤ x) (a *ℤ z) pb (omega (arith, ints, e1, e2, e3))

pub cancel : (c x y : ℤ) → pos 1 ≤ℤ c → c *ℤ x ≡ c *ℤ y → x ≡ y
cancel c x y p e =
    let a = mul_cancel c x y p (omega (arith, ints, e)) in
    let b = mul_cancel c y x p (omega (arith, ints, e)) in
    omega (arith, ints)

pub mul_pos : (a b : ℤ) → pos 1 ≤ℤ a → pos 1 ≤ℤ b → pos 1 ≤ℤ (a *ℤ b)
mul_pos a b p q =
    let e : (a -ℤ pos 1) *ℤ (b -ℤ pos 1) ≡ a *ℤ b -ℤ a -ℤ b +ℤ pos 1 = simp rings (omega (arith, ints)) in
    let f = mul_nonneg (a -ℤ pos 1) (b -ℤ pos 1) (omega (arith, ints)) (omega (arith, ints)) in
    omega (arith, ints, e)
