-- Equal fractions have the same lowest terms; so a quotient is a product with the inverse.
use Rattle.std.proofs.Common.{◌≡◌, ◌≢◌, ℕ, zero, suc, ℤ, pos, negsuc, ◌*◌, ◌/◌, ◌<◌, ◌*ℤ◌, None, ◌⊎◌, inl, inr, refl, sym, subst, ap, ◌∙◌, arith}
use Rattle.std.specs.Prelude.{◌≤ℤ◌, unsigned_abs}
use Rattle.std.specs.Int.{IsGcd}
use lib.IntN.{neg_ℤ, *ℤ_comm}
use Rattle.std.proofs.Math.Nat.{mul-div_cancel'}
use Rattle.std.proofs.lemmas.Nat.Gcd.{same_from_IsGcd, IsGcd-swap}
use Rattle.std.proofs.lemmas.Int.{ints}
use Rattle.exact128.specs.Gcd.{gcd}
use Rattle.exact128.specs.Fractions.{Fraction, signed_of, lowest, ratio}
use Rattle.exact128.proofs.Rings.{rings, neg-mul, mul_assoc, mul_left_comm, cancel}
use Rattle.exact128.proofs.Gcds.{gcd_is, gcd_pos, coprime_parts}
use Rattle.exact128.proofs.FractionSums.{abs_pos, pos_factor}
use Rattle.exact128.proofs.FractionFits.{lowest_only, abs_some, ratio_none}

-- n / m is a / b in lowest terms
pub record IsLowest (a b n m : ℤ) : Type 0 where
  pub value : n *ℤ b ≡ a *ℤ m
  pub positive : pos 1 ≤ℤ m
  pub reduced : gcd (unsigned_abs n) (unsigned_abs m) ≡ 1

signed_value : (a b : ℤ) (g n d : ℕ) → g * n ≡ unsigned_abs a → g * d ≡ unsigned_abs b → signed_of n a b *ℤ b ≡ a *ℤ pos d
signed_value (pos a) (pos b) g n d en ed = omega (arith, ints, ap (λ k. n * k) ed, ap (λ k. k * d) en)
signed_value (pos a) (negsuc b) g n d en ed = let e = neg-mul (pos n) (negsuc b) in omega (arith, ints, ap (λ k. n * k) ed, ap (λ k. k * d) en)
signed_value (negsuc a) (pos b) g n d en ed = let e = neg-mul (pos n) (pos b) in omega (arith, ints, ap (λ k. n * k) ed, ap (λ k. k * d) en)
signed_value (negsuc a) (negsuc b) g n d en ed = omega (arith, ints, ap (λ k. n * k) ed, ap (λ k. k * d) en)

pub abs_signed : (n : ℕ) (a b : ℤ) → unsigned_abs (signed_of n a b) ≡ n
abs_signed n (pos a) (pos b) = refl
abs_signed n (pos a) (negsuc b) = omega (arith, ints)
abs_signed n (negsuc a) (pos b) = omega (arith, ints)
abs_signed n (negsuc a) (negsuc b) = refl

pub lowest_is : (a b : ℤ) → b ≢ pos 0 → IsLowest a b (lowest a b).num (lowest a b).den
unfolding lowest
lowest_is a b some =
    let g = gcd (unsigned_abs a) (unsigned_abs b) in
    let is : IsGcd (unsigned_abs a) (unsigned_abs b) g = gcd_is (unsigned_abs a) (unsigned_abs b) in
    let bp : 0 < unsigned_abs b = abs_some b some in
    let gp : 0 < g = gcd_pos (unsigned_abs a) (unsigned_abs b) g bp is in
    let ea : g * (unsigned_abs a / g) ≡ unsigned_abs a = mul-div_cancel' g is.0 in
    let eb : g * (unsigned_abs b / g) ≡ unsigned_abs b = mul-div_cancel' g is.1 in
    let dp : 0 < unsigned_abs b / g = pos_factor g (unsigned_abs b / g) (omega (arith, eb, bp)) in
    record {
      value = signed_value a b g (unsigned_abs a / g) (unsigned_abs b / g) ea eb;
      positive = omega (arith, ints, dp);
      reduced = rw (abs_signed (unsigned_abs a / g) a b) (same_from_IsGcd _ _ _ _ (gcd_is _ _) (coprime_parts (unsigned_abs a) (unsigned_abs b) g gp is));
    }

cancel_any : (c x y : ℤ) → c ≢ pos 0 → c *ℤ x ≡ c *ℤ y → x ≡ y
cancel_any (pos zero) x y h e = absurd (h refl)
cancel_any (pos (suc n)) x y h e = cancel (pos (suc n)) x y (omega (arith, ints)) e
cancel_any (negsuc n) x y h e = cancel (pos (suc n)) x y (omega (arith, ints)) (turned x ∙ ap neg_ℤ e ∙ sym (turned y))
  where
    turned : (z : ℤ) → pos (suc n) *ℤ z ≡ neg_ℤ (negsuc n *ℤ z)
    turned z = neg-mul (negsuc n) z

as_pos : (z : ℤ) → pos 1 ≤ℤ z → z ≡ pos (unsigned_abs z)
as_pos (pos n) p = refl
as_pos (negsuc n) p = absurd (omega (arith, ints))

-- a / b and c / d are one fraction
pub lowest_same : (a b c d : ℤ) → b ≢ pos 0 → d ≢ pos 0 → a *ℤ d ≡ c *ℤ b → lowest a b ≡ lowest c d
lowest_same a b c d hb hd e =
    let n = (lowest c d).num in
    let m = (lowest c d).den in
    let is = lowest_is c d hd in
    let em = as_pos m is.positive in
    let one : d *ℤ (n *ℤ b) ≡ (n *ℤ d) *ℤ b = simp rings in
    let two : (c *ℤ m) *ℤ b ≡ (c *ℤ b) *ℤ m = simp rings in
    let three : (a *ℤ d) *ℤ m ≡ d *ℤ (a *ℤ m) = simp rings in
    let value : n *ℤ b ≡ a *ℤ m = cancel_any d (n *ℤ b) (a *ℤ m) hd (one ∙ ap (λ z. z *ℤ b) is.value ∙ two ∙ ap (λ z. z *ℤ m) (sym e) ∙ three) in
    lowest_only n a b (unsigned_abs m) hb (abs_pos m is.positive) is.reduced (value ∙ ap (λ z. a *ℤ z) em) ∙ ap (λ z. record { num = n; den = z }) (sym em)

-- ---- quotients
pub inverse_turn : (a b c d : ℤ) → pos 1 ≤ℤ d → (a *ℤ signed_of (unsigned_abs d) (pos 1) c) *ℤ (b *ℤ c) ≡ (a *ℤ d) *ℤ (b *ℤ pos (unsigned_abs c))
inverse_turn a b (pos c) (pos d) p = refl
inverse_turn a b (negsuc c) (pos d) p =
    let s : neg_ℤ (pos d) *ℤ negsuc c ≡ pos d *ℤ pos (suc c) = neg-mul (pos d) (negsuc c) ∙ omega (arith, ints) in
    let one : (a *ℤ neg_ℤ (pos d)) *ℤ (b *ℤ negsuc c) ≡ (a *ℤ b) *ℤ (neg_ℤ (pos d) *ℤ negsuc c) = simp (mul_assoc, *ℤ_comm, mul_left_comm) in
    let two : (a *ℤ b) *ℤ (pos d *ℤ pos (suc c)) ≡ (a *ℤ pos d) *ℤ (b *ℤ pos (suc c)) = simp (mul_assoc, *ℤ_comm, mul_left_comm) in
    one ∙ ap (λ z. (a *ℤ b) *ℤ z) s ∙ two
inverse_turn a b c (negsuc d) p = absurd (omega (arith, ints))

some_times : (b c : ℤ) → pos 1 ≤ℤ b → c ≢ pos 0 → b *ℤ c ≢ pos 0
some_times (pos (suc b)) (pos (suc c)) p h e = absurd (omega (arith, ints, e))
some_times (pos (suc b)) (negsuc c) p h e = absurd (omega (arith, ints, e))
some_times (pos (suc b)) (pos zero) p h e = absurd (h refl)
some_times (pos zero) c p h e = absurd (omega (arith, ints))
some_times (negsuc b) c p h e = absurd (omega (arith, ints))

abs_some_pos : (c : ℤ) → c ≢ pos 0 → pos (unsigned_abs c) ≢ pos 0
abs_some_pos (pos zero) h e = h refl
abs_some_pos (pos (suc c)) h e = absurd (omega (arith, ints, e))
abs_some_pos (negsuc c) h e = absurd (omega (arith, ints, e))

-- (a / b) / (c / d) is the product of a / b with the inverse of c / d
pub quotient_is : (a b c d : ℤ) → pos 1 ≤ℤ b → pos 1 ≤ℤ d → c ≢ pos 0 → ratio (a *ℤ signed_of (unsigned_abs d) (pos 1) c) (b *ℤ pos (unsigned_abs c)) ≡ ratio (a *ℤ d) (b *ℤ c)
unfolding ratio
quotient_is a b c d pb pd hc =
    let same = lowest_same (a *ℤ signed_of (unsigned_abs d) (pos 1) c) (b *ℤ pos (unsigned_abs c)) (a *ℤ d) (b *ℤ c)
    (some_times b (pos (unsigned_abs c)) pb (abs_some_pos c hc)) (some_times b c pb hc) (inverse_turn a b c d pd) in
    rw same refl

-- and is worth as much
pub quotient_value : (a b c d n m : ℤ) → pos 1 ≤ℤ b → pos 1 ≤ℤ d → c ≢ pos 0 → n *ℤ (b *ℤ pos (unsigned_abs c)) ≡ (a *ℤ signed_of (unsigned_abs d) (pos 1) c) *ℤ m → n *ℤ (b *ℤ c) ≡ (a *ℤ d) *ℤ m
quotient_value a b c d n m pb pd hc e =
    let k = b *ℤ pos (unsigned_abs c) in
    let s = a *ℤ signed_of (unsigned_abs d) (pos 1) c in
    let one : k *ℤ (n *ℤ (b *ℤ c)) ≡ (n *ℤ k) *ℤ (b *ℤ c) = simp rings in
    let two : (s *ℤ m) *ℤ (b *ℤ c) ≡ (s *ℤ (b *ℤ c)) *ℤ m = simp rings in
    let three : ((a *ℤ d) *ℤ k) *ℤ m ≡ k *ℤ ((a *ℤ d) *ℤ m) = simp rings in
    cancel_any k (n *ℤ (b *ℤ c)) ((a *ℤ d) *ℤ m) (some_times b (pos (unsigned_abs c)) pb (abs_some_pos c hc)) (one ∙ ap (λ z. z *ℤ (b *ℤ c)) e ∙ two ∙ ap (λ z. z *ℤ m) (inverse_turn a b c d pd) ∙ three)

-- the inverse is in lowest terms too
pub record IsInverse (c d n m : ℤ) : Type 0 where
  pub positive : pos 1 ≤ℤ m
  pub size : unsigned_abs n ≡ unsigned_abs d
  pub reduced : gcd (unsigned_abs n) (unsigned_abs m) ≡ 1

pub inverse_is : (c d n m : ℤ) → c ≢ pos 0 → gcd (unsigned_abs c) (unsigned_abs d) ≡ 1 → n ≡ signed_of (unsigned_abs d) (pos 1) c → m ≡ pos (unsigned_abs c) → IsInverse c d n m
inverse_is c d n m h r en em =
    let size : unsigned_abs n ≡ unsigned_abs d = ap unsigned_abs en ∙ abs_signed (unsigned_abs d) (pos 1) c in
    let is : IsGcd (unsigned_abs c) (unsigned_abs d) 1 = subst (IsGcd (unsigned_abs c) (unsigned_abs d)) r (gcd_is (unsigned_abs c) (unsigned_abs d)) in
    record {
      positive = omega (arith, ints, em, abs_some c h);
      size = size;
      reduced = rw (size, em) (same_from_IsGcd _ _ _ _ (gcd_is (unsigned_abs d) (unsigned_abs c)) (IsGcd-swap (unsigned_abs c) (unsigned_abs d) 1 is));
    }

-- ---- lowest terms, as they are formed
pub lowest_made : (a b n d : ℤ) (g : ℕ) → g ≡ gcd (unsigned_abs a) (unsigned_abs b) → n ≡ signed_of (unsigned_abs a / g) a b → d ≡ pos (unsigned_abs b / g) → lowest a b ≡ record { num = n; den = d }
unfolding lowest
lowest_made a b n d g eg en ed = rw (en, ed, eg) refl

pub lowest_made_is : (a b n d : ℤ) → b ≢ pos 0 → lowest a b ≡ record { num = n; den = d } → IsLowest a b n d
lowest_made_is a b n d h e = subst (λ (f : Fraction). IsLowest a b f.num f.den) e (lowest_is a b h)

pub lowest_wide : (a b : ℤ) (x y g : ℕ) → x ≡ unsigned_abs a → y ≡ unsigned_abs b → g ≡ gcd x y → (170141183460469231731687303715884105727 < x / g) ⊎ (170141183460469231731687303715884105727 < y / g) → ratio a b ≡ None
unfolding lowest
lowest_wide a b x y g ex ey eg (inl wide) =
    let e : g ≡ gcd (unsigned_abs a) (unsigned_abs b) = rw (ex, ey) at eg in
    let out : 170141183460469231731687303715884105727 < unsigned_abs a / gcd (unsigned_abs a) (unsigned_abs b) = rw (ex, e) at wide in
    ratio_none a b (λ f. absurd (omega (arith, f.num, out, abs_signed (unsigned_abs a / gcd (unsigned_abs a) (unsigned_abs b)) a b)))
lowest_wide a b x y g ex ey eg (inr wide) =
    let e : g ≡ gcd (unsigned_abs a) (unsigned_abs b) = rw (ex, ey) at eg in
    let out : 170141183460469231731687303715884105727 < unsigned_abs b / gcd (unsigned_abs a) (unsigned_abs b) = rw (ey, e) at wide in
    ratio_none a b (λ f. absurd (omega (arith, f.den, out)))

pub abs_made : (a b n : ℤ) (size : ℕ) → n ≡ signed_of size a b → unsigned_abs n ≡ size
abs_made a b n size e = ap unsigned_abs e ∙ abs_signed size a b
