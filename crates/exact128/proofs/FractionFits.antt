-- Where the operations of fractions have a value.
use Rattle.std.proofs.Common.{◌≡◌, ℕ, zero, suc, ℤ, pos, negsuc, ◌*◌, ◌/◌, ◌<◌, ◌≢◌, ◌+ℤ◌, ◌*ℤ◌, false, Some, None, refl, sym, subst, ap, ◌∙◌, arith}
use Rattle.std.specs.Prelude.{unsigned_abs, int_lt, int_div, ◌&&◌}
use Rattle.std.specs.Cmp.Derive.{both_true}
use Rattle.std.specs.Int.{IsGcd}
use Prim.Native.Nat.{◌∣◌}
use Rattle.std.proofs.Math.Nat.{mul-div_cancel', mul-div_cancel_left, dvd-mul_left}
use Rattle.std.proofs.lemmas.Nat.Gcd.{IsGcd-swap, dvd_antisymm}
use Rattle.std.proofs.lemmas.Int.{ints, unsigned_abs-mul}
use Rattle.exact128.specs.Fits.{Fits, fits}
use Rattle.exact128.specs.Gcd.{gcd}
use Rattle.exact128.specs.Fractions.{Fraction, signed_of, lowest, LowestFits, fraction_fits, ratio, shared_of, scaled_of, sum_of, again_of, bottom_of, SumFits, OrderFits, sum, exceeds}
use Rattle.exact128.proofs.FitsLemmas.{to_fits, of_fits, both, either_bool}
use Rattle.exact128.proofs.Gcds.{gcd_is, gcd_pos, coprime_parts, dvd_of_coprime}

-- ---- lowest terms are the only ones whose parts share nothing
cancel_factor : (g x y : ℕ) → 0 < g → g * x ≡ g * y → x ≡ y
cancel_factor g x y p e = sym (mul-div_cancel_left x p) ∙ ap (λ n. n / g) e ∙ mul-div_cancel_left y p

some_factor : (m k : ℕ) → 0 < m * k → 0 < k
some_factor m zero p = absurd (omega arith)
some_factor m (suc k) p = omega arith

lowest_parts : (n d a b : ℕ) → 0 < b → IsGcd n d 1 → n * b ≡ a * d → (n ≡ a / gcd a b) × (d ≡ b / gcd a b)
lowest_parts n d a b p h e =
    let g = gcd a b in
    let is = gcd_is a b in
    let gp : 0 < g = gcd_pos a b g p is in
    let a1 = a / g in
    let b1 = b / g in
    let ea : g * a1 ≡ a = mul-div_cancel' g is.0 in
    let eb : g * b1 ≡ b = mul-div_cancel' g is.1 in
    let bp : 0 < b1 = some_factor g b1 (omega (arith, eb, p)) in
    let parts : IsGcd a1 b1 1 = coprime_parts a b g gp is in
    let cross : n * b1 ≡ a1 * d = cancel_factor g (n * b1) (a1 * d) gp (omega (arith, e, ap (λ k. n * k) eb, ap (λ k. k * d) ea)) in
    let one : d ∣ b1 = dvd_of_coprime d n b1 (IsGcd-swap n d 1 h) (subst (λ k. d ∣ k) (sym cross) (dvd-mul_left d a1)) in
    let two : b1 ∣ d = dvd_of_coprime b1 a1 d (IsGcd-swap a1 b1 1 parts) (subst (λ k. b1 ∣ k) cross (dvd-mul_left b1 n)) in
    let ed : d ≡ b1 = dvd_antisymm one two in
    (cancel_factor b1 n a1 bp (omega (arith, cross, ap (λ k. a1 * k) ed)), ed)

below_nothing : (x d : ℕ) → 0 < d → 0 < suc x * d
below_nothing x zero p = absurd (omega arith)
below_nothing x (suc d) p = omega arith

signed_is : (n a b : ℤ) (d : ℕ) → b ≢ pos 0 → 0 < d → n *ℤ b ≡ a *ℤ pos d → signed_of (unsigned_abs n) a b ≡ n
signed_is n a (pos zero) d h p e = absurd (h refl)
signed_is (pos m) (pos x) (pos (suc y)) d h p e = refl
signed_is (pos m) (pos x) (negsuc y) d h p e =
    let none : m ≡ 0 = omega (arith, ints, e) in
    rw none refl
signed_is (pos m) (negsuc x) (pos (suc y)) d h p e = absurd (omega (arith, ints, e, below_nothing x d p))
signed_is (pos m) (negsuc x) (negsuc y) d h p e = refl
signed_is (negsuc m) (pos x) (pos (suc y)) d h p e = absurd (omega (arith, ints, e))
signed_is (negsuc m) (pos x) (negsuc y) d h p e = refl
signed_is (negsuc m) (negsuc x) (pos (suc y)) d h p e = refl
signed_is (negsuc m) (negsuc x) (negsuc y) d h p e = absurd (omega (arith, ints, e))

pub abs_some : (z : ℤ) → z ≢ pos 0 → 0 < unsigned_abs z
abs_some (pos zero) h = absurd (h refl)
abs_some (pos (suc n)) h = omega arith
abs_some (negsuc n) h = omega arith

pub lowest_only : (n a b : ℤ) (d : ℕ) → b ≢ pos 0 → 0 < d → gcd (unsigned_abs n) d ≡ 1 → n *ℤ b ≡ a *ℤ pos d → lowest a b ≡ record { num = n; den = pos d }
unfolding lowest
lowest_only n a b d h p r e =
    let size : unsigned_abs n * unsigned_abs b ≡ unsigned_abs a * d = sym (unsigned_abs-mul n b) ∙ ap unsigned_abs e ∙ unsigned_abs-mul a (pos d) in
    let two = lowest_parts (unsigned_abs n) d (unsigned_abs a) (unsigned_abs b) (abs_some b h) (subst (λ k. IsGcd (unsigned_abs n) d k) r (gcd_is (unsigned_abs n) d)) size in
    rw (← two.0, ← two.1, signed_is n a b d h p e) refl

-- ---- where a fraction in lowest terms has numbers that fit
pub ratio_some : (a b : ℤ) → LowestFits a b → ratio a b ≡ Some (lowest a b)
unfolding ratio
ratio_some a b h = rw (both_true (to_fits (lowest a b).num h.num) (to_fits (lowest a b).den h.den)) refl

pub ratio_none : (a b : ℤ) → (LowestFits a b → ⊥) → ratio a b ≡ None
unfolding ratio
ratio_none a b h =
    let off : fraction_fits (lowest a b) ≡ false = either_bool (fraction_fits (lowest a b)) (λ e.
    let two = both (fits (lowest a b).num) (fits (lowest a b).den) e in
    h (record { num = of_fits (lowest a b).num two.0; den = of_fits (lowest a b).den two.1 })) in
    rw off refl

-- ---- sums
pub sum_some : (x y : Fraction) → SumFits x.num x.den y.num y.den → sum x y ≡ Some (record { num = int_div (sum_of x.num x.den y.num y.den) (pos (again_of (sum_of x.num x.den y.num y.den) x.den y.den)); den = bottom_of (sum_of x.num x.den y.num y.den) x.den y.den })
unfolding sum
sum_some x y h =
    let s = sum_of x.num x.den y.num y.den in
    let one = both_true (to_fits (scaled_of x.num y.den (shared_of x.den y.den)) h.left) (to_fits (scaled_of y.num x.den (shared_of x.den y.den)) h.right) in
    let two = both_true (to_fits s h.sum) (to_fits (bottom_of s x.den y.den) h.bottom) in
    rw (both_true one two) refl

pub sum_none : (x y : Fraction) → (SumFits x.num x.den y.num y.den → ⊥) → sum x y ≡ None
unfolding sum
sum_none x y h =
    let s = sum_of x.num x.den y.num y.den in
    let l = fits (scaled_of x.num y.den (shared_of x.den y.den)) in
    let r = fits (scaled_of y.num x.den (shared_of x.den y.den)) in
    let off : ((l && r) && (fits s && fits (bottom_of s x.den y.den))) ≡ false =
    either_bool ((l && r) && (fits s && fits (bottom_of s x.den y.den))) (λ e.
    let two = both (l && r) (fits s && fits (bottom_of s x.den y.den)) e in
    let a = both l r two.0 in
    let b = both (fits s) (fits (bottom_of s x.den y.den)) two.1 in
    h (record { left = of_fits (scaled_of x.num y.den (shared_of x.den y.den)) a.0; right = of_fits (scaled_of y.num x.den (shared_of x.den y.den)) a.1; sum = of_fits s b.0; bottom = of_fits (bottom_of s x.den y.den) b.1 })) in
    rw off refl

-- each number that the sum may stop at
pub sum_left_wide : (a b c d : ℤ) (g : ℕ) → g ≡ shared_of b d → ¬ Fits (scaled_of a d g) → sum (record { num = a; den = b }) (record { num = c; den = d }) ≡ None
sum_left_wide a b c d g eg out = sum_none (record { num = a; den = b }) (record { num = c; den = d }) (λ f. out (rw eg f.left))

pub sum_right_wide : (a b c d : ℤ) (g : ℕ) → g ≡ shared_of b d → ¬ Fits (scaled_of c b g) → sum (record { num = a; den = b }) (record { num = c; den = d }) ≡ None
sum_right_wide a b c d g eg out = sum_none (record { num = a; den = b }) (record { num = c; den = d }) (λ f. out (rw eg f.right))

pub sum_wide : (a b c d left right : ℤ) (g : ℕ) → g ≡ shared_of b d → left ≡ scaled_of a d g → right ≡ scaled_of c b g → ¬ Fits (left +ℤ right) → sum (record { num = a; den = b }) (record { num = c; den = d }) ≡ None
unfolding sum_of
sum_wide a b c d left right g eg el er out = sum_none (record { num = a; den = b }) (record { num = c; den = d }) (λ f. out (rw (el, er, eg) f.sum))

pub sum_bottom_wide : (a b c d s q : ℤ) (g h : ℕ) → g ≡ shared_of b d → s ≡ scaled_of a d g +ℤ scaled_of c b g → h ≡ gcd (unsigned_abs s) g → q ≡ pos (unsigned_abs b / g) →
    ¬ Fits (scaled_of q d h) → sum (record { num = a; den = b }) (record { num = c; den = d }) ≡ None
unfolding sum_of again_of bottom_of
sum_bottom_wide a b c d s q g h eg es eh eq out = sum_none (record { num = a; den = b }) (record { num = c; den = d }) (λ f. out (rw (eq, eh, es, eg) f.bottom))

-- all numbers of the sum
pub sum_made : (a b c d s q num den : ℤ) (g h : ℕ) → g ≡ shared_of b d → s ≡ scaled_of a d g +ℤ scaled_of c b g → h ≡ gcd (unsigned_abs s) g → q ≡ pos (unsigned_abs b / g) →
    Fits (scaled_of a d g) → Fits (scaled_of c b g) → Fits s → Fits (scaled_of q d h) → den ≡ scaled_of q d h → num ≡ int_div s (pos h) →
    sum (record { num = a; den = b }) (record { num = c; den = d }) ≡ Some (record { num = num; den = den })
unfolding sum_of again_of bottom_of
sum_made a b c d s q num den g h eg es eh eq fl fr fs fb ed en =
    let es' : s ≡ sum_of a b c d = rw eg at es in
    let eh' : h ≡ again_of (sum_of a b c d) b d = rw (eg, es') at eh in
    let ed' : den ≡ bottom_of (sum_of a b c d) b d = rw (eq, eg, eh') at ed in
    let en' : num ≡ int_div (sum_of a b c d) (pos (again_of (sum_of a b c d) b d)) = rw (es', eh') at en in
    rw (en', ed') (sum_some (record { num = a; den = b }) (record { num = c; den = d }) (record {
      left = rw eg at fl;
      right = rw eg at fr;
      sum = rw es' at fs;
      bottom = rw (eq, eg, eh') at fb;
    }))

-- ---- order
pub exceeds_some : (x y : Fraction) → OrderFits x.num x.den y.num y.den → exceeds x y ≡ Some (int_lt (scaled_of y.num x.den (shared_of x.den y.den)) (scaled_of x.num y.den (shared_of x.den y.den)))
unfolding exceeds
exceeds_some x y h =
    rw (both_true (to_fits (scaled_of x.num y.den (shared_of x.den y.den)) h.left) (to_fits (scaled_of y.num x.den (shared_of x.den y.den)) h.right)) refl

pub exceeds_none : (x y : Fraction) → (OrderFits x.num x.den y.num y.den → ⊥) → exceeds x y ≡ None
unfolding exceeds
exceeds_none x y h =
    let l = fits (scaled_of x.num y.den (shared_of x.den y.den)) in
    let r = fits (scaled_of y.num x.den (shared_of x.den y.den)) in
    let off : (l && r) ≡ false = either_bool (l && r) (λ e. let a = both l r e in h (record { left = of_fits (scaled_of x.num y.den (shared_of x.den y.den)) a.0; right = of_fits (scaled_of y.num x.den (shared_of x.den y.den)) a.1 })) in
    rw off refl
