-- What the operations of fractions are worth.
use Rattle.std.proofs.Common.{◌≡◌, ℕ, zero, suc, ℤ, pos, negsuc, List, [], ◌∷◌, ◌*◌, ◌/◌, ◌<◌, ◌+ℤ◌, ◌*ℤ◌, Bool, true, false, cond, Option, Some, None, map, drop, refl, sym, subst, ap, ◌∙◌, arith, inl, inr, ◌⊎◌}
use Rattle.std.specs.Prelude.{◌≤ℤ◌, unsigned_abs, int_lt, int_div}
use Rattle.std.proofs.lemmas.Int.{ints}
use Rattle.std.proofs.Math.Nat.{mul-div_cancel'}
use lib.IntN.{neg_ℤ}
use borrow.Author.Differences.{lt-true, lt-false}
use Rattle.exact128.specs.Gcd.{gcd}
use Rattle.exact128.proofs.Gcds.{gcd_is, gcd_pos}
use Rattle.exact128.proofs.Rings.{rings, neg-mul, cross_trans, cancel, mul_pos}
use Rattle.exact128.specs.Sums.{entry, dot}
use Rattle.exact128.specs.Fractions.{ratio, shared_of, scaled_of, sum_of, again_of, bottom_of, Fraction, whole, lowest, where_fits, then_do, product, quotient, sum, exceeds}
use Rattle.exact128.proofs.FractionSums.{sum_value, bottom_pos, whole_part, abs_pos}
use Rattle.exact128.proofs.FractionOrders.{lt_times}
use Rattle.linear_rows.specs.Members.{In}
use Rattle.linear_rows.specs.Solving.{sum_on, negated, bound, greatest}

-- ---- options
pub record Went {X Y : Type 0} (o : Option X) (f : X → Option Y) (y : Y) : Type 0 where
  pub value : X
  pub was : o ≡ Some value
  pub next : f value ≡ Some y

pub went : {X Y : Type 0} (o : Option X) (f : X → Option Y) (y : Y) → then_do o f ≡ Some y → Went o f y
went None f y e = cc
went (Some x) f y e = record { value = x; was = refl; next = e }

pub same_some : {X : Type 0} (x y : X) → Some x ≡ Some y → x ≡ y
same_some x y e = cc

pub fits_is : {X : Type 0} (b : Bool) (x y : X) → where_fits b x ≡ Some y → x ≡ y
fits_is true x y e = cc
fits_is false x y e = cc

-- ---- lowest terms
pub record IsLowest (a b : ℤ) (f : Fraction) : Type 0 where
  pub positive : pos 1 ≤ℤ f.den
  pub value : f.num *ℤ b ≡ a *ℤ f.den

part_pos : (g n : ℕ) → g * n ≡ 0 → 0 < g → n ≡ 0
part_pos g zero e p = refl
part_pos g (suc n) e p = absurd (omega arith)

pub lowest_is : (a b : ℤ) → pos 1 ≤ℤ b → IsLowest a b (lowest a b)
unfolding lowest
lowest_is a (pos zero) p = absurd (omega (arith, ints))
lowest_is a (negsuc b) p = absurd (omega (arith, ints))
lowest_is (pos n) (pos (suc b)) p =
    let g = gcd n (suc b) in
    let is = gcd_is n (suc b) in
    let en = mul-div_cancel' g is.0 in
    let eb = mul-div_cancel' g is.1 in
    record {
      positive = bottom_of_is g (suc b / g) (suc b) eb (omega arith);
      value = ap pos (omega (arith, ap (λ k. (n / g) * k) eb, ap (λ k. k * (suc b / g)) en));
    }
  where
    bottom_of_is : (g d n : ℕ) → g * d ≡ n → 0 < n → pos 1 ≤ℤ pos d
    bottom_of_is g zero n e p = absurd (omega arith)
    bottom_of_is g (suc d) n e p = omega (arith, ints)
lowest_is (negsuc n) (pos (suc b)) p =
    let g = gcd (suc n) (suc b) in
    let is = gcd_is (suc n) (suc b) in
    let en = mul-div_cancel' g is.0 in
    let eb = mul-div_cancel' g is.1 in
    let low : (suc n / g) * suc b ≡ suc n * (suc b / g) = omega (arith, ap (λ k. (suc n / g) * k) eb, ap (λ k. k * (suc b / g)) en) in
    record {
      positive = bottom_of_is g (suc b / g) (suc b) eb (omega arith);
      value = neg-mul (pos (suc n / g)) (pos (suc b)) ∙ ap (λ k. neg_ℤ (pos k)) low ∙ sym (neg-mul (pos (suc n)) (pos (suc b / g)));
    }
  where
    bottom_of_is : (g d n : ℕ) → g * d ≡ n → 0 < n → pos 1 ≤ℤ pos d
    bottom_of_is g zero n e p = absurd (omega arith)
    bottom_of_is g (suc d) n e p = omega (arith, ints)

-- ---- the fraction is A / D
pub record Worth (D : ℕ) (f : Fraction) (A : ℤ) : Type 0 where
  pub positive : pos 1 ≤ℤ f.den
  pub is : f.num *ℤ pos D ≡ A *ℤ f.den

pub worth_whole : (D : ℕ) (a : ℤ) → Worth D (whole a) (a *ℤ pos D)
worth_whole D a = record { positive = omega (arith, ints); is = omega (arith, ints) }

pub worth_product : (D : ℕ) (a X : ℤ) (v p : Fraction) → Worth D v X → product (whole a) v ≡ Some p → Worth D p (a *ℤ X)
unfolding ratio
worth_product D a X v p w e =
    let is = subst (IsLowest (a *ℤ v.num) (pos 1 *ℤ v.den)) (fits_is _ (lowest (a *ℤ v.num) (pos 1 *ℤ v.den)) p e) (lowest_is (a *ℤ v.num) (pos 1 *ℤ v.den) (mul_pos (pos 1) v.den (omega (arith, ints)) w.positive)) in
    let one : v.den *ℤ (p.num *ℤ pos D) ≡ (p.num *ℤ (pos 1 *ℤ v.den)) *ℤ pos D = simp rings (omega (arith, ints)) in
    let two : ((a *ℤ v.num) *ℤ p.den) *ℤ pos D ≡ (a *ℤ p.den) *ℤ (v.num *ℤ pos D) = simp rings in
    let three : (a *ℤ p.den) *ℤ (X *ℤ v.den) ≡ v.den *ℤ ((a *ℤ X) *ℤ p.den) = simp rings in
    let all : v.den *ℤ (p.num *ℤ pos D) ≡ v.den *ℤ ((a *ℤ X) *ℤ p.den) = one ∙ ap (λ z. z *ℤ pos D) is.value ∙ two ∙ ap (λ z. (a *ℤ p.den) *ℤ z) w.is ∙ three in
    record { positive = is.positive; is = cancel v.den (p.num *ℤ pos D) ((a *ℤ X) *ℤ p.den) w.positive all }

sum_core : (a b c d n e D A B : ℤ) → pos 1 ≤ℤ b → pos 1 ≤ℤ d → n *ℤ (b *ℤ d) ≡ (a *ℤ d +ℤ c *ℤ b) *ℤ e → a *ℤ D ≡ A *ℤ b → c *ℤ D ≡ B *ℤ d → n *ℤ D ≡ (A +ℤ B) *ℤ e
sum_core a b c d n e D A B pb pd v ea ec =
    let one : (b *ℤ d) *ℤ (n *ℤ D) ≡ (n *ℤ (b *ℤ d)) *ℤ D = simp rings in
    let two : ((a *ℤ d +ℤ c *ℤ b) *ℤ e) *ℤ D ≡ (d *ℤ e) *ℤ (a *ℤ D) +ℤ (b *ℤ e) *ℤ (c *ℤ D) = simp rings (omega (arith, ints)) in
    let three : (d *ℤ e) *ℤ (A *ℤ b) +ℤ (b *ℤ e) *ℤ (B *ℤ d) ≡ (b *ℤ d) *ℤ ((A +ℤ B) *ℤ e) = simp rings (omega (arith, ints)) in
    let mid : (d *ℤ e) *ℤ (a *ℤ D) +ℤ (b *ℤ e) *ℤ (c *ℤ D) ≡ (d *ℤ e) *ℤ (A *ℤ b) +ℤ (b *ℤ e) *ℤ (B *ℤ d) = rw (ea, ec) refl in
    cancel (b *ℤ d) (n *ℤ D) ((A +ℤ B) *ℤ e) (mul_pos b d pb pd) (one ∙ ap (λ z. z *ℤ D) v ∙ two ∙ mid ∙ three)

pub worth_sum : (D : ℕ) (A B : ℤ) (x y z : Fraction) → Worth D x A → Worth D y B → sum x y ≡ Some z → Worth D z (A +ℤ B)
unfolding sum
worth_sum D A B x y z wx wy e =
    let s = sum_of x.num x.den y.num y.den in
    let f : Fraction = record { num = int_div s (pos (again_of s x.den y.den)); den = bottom_of s x.den y.den } in
    let is : f ≡ z = fits_is _ f z e in
    let made : Worth D f (A +ℤ B) = record {
      positive = bottom_pos s x.den y.den wx.positive wy.positive;
      is = sum_core x.num x.den y.num y.den f.num f.den (pos D) A B wx.positive wy.positive (sum_value x.num x.den y.num y.den wx.positive wy.positive) wx.is wy.is;
    } in
    subst (λ f. Worth D f (A +ℤ B)) is made

-- the values are these naturals over D
abbrev pub Worths : ℕ → List Fraction → List ℕ → Type 0
Worths D [] [] = Unit {0}
Worths D [] (x ∷ xs) = ⊥
Worths D (v ∷ vs) [] = ⊥
Worths D (v ∷ vs) (x ∷ xs) = Worth D v (pos x) × Worths D vs xs

pub worth_sum_on : (D : ℕ) (cs : List ℤ) (vs : List Fraction) (xs : List ℕ) (s z : Fraction) (A : ℤ) → Worth D s A → Worths D vs xs → sum_on s cs vs ≡ Some z → Worth D z (A +ℤ dot cs (map pos xs))
unfolding dot
worth_sum_on D [] vs xs s z A ws w e = subst (λ f. Worth D f (A +ℤ pos 0)) (same_some s z e) (let zero_more : A +ℤ pos 0 ≡ A = omega (arith, ints) in rw zero_more ws)
worth_sum_on D (a ∷ cs) [] [] s z A ws w e = subst (λ f. Worth D f (A +ℤ pos 0)) (same_some s z e) (let zero_more : A +ℤ pos 0 ≡ A = omega (arith, ints) in rw zero_more ws)
worth_sum_on D (a ∷ cs) [] (x ∷ xs) s z A ws w e = absurd w
worth_sum_on D (a ∷ cs) (v ∷ vs) [] s z A ws w e = absurd w
worth_sum_on D (a ∷ cs) (v ∷ vs) (x ∷ xs) s z A ws w e =
    let one = went (product (whole a) v) (λ p. then_do (sum s p) (λ z. sum_on z cs vs)) z e in
    let two = went (sum s one.value) (λ z. sum_on z cs vs) z one.next in
    let wp = worth_product D a (pos x) v one.value w.0 one.was in
    let wz = worth_sum D A (a *ℤ pos x) s one.value two.value ws wp two.was in
    let more = worth_sum_on D cs vs xs two.value z (A +ℤ a *ℤ pos x) wz w.1 two.next in
    let same : A +ℤ (a *ℤ pos x +ℤ dot cs (map pos xs)) ≡ (A +ℤ a *ℤ pos x) +ℤ dot cs (map pos xs) = omega (arith, ints) in
    rw same more

-- ---- bounds
-- what the columns after k and the constant are worth
abbrev pub rest_worth : ℕ → ℕ → List ℕ → List ℤ → ℤ
rest_worth D k xs r = entry r 0 *ℤ pos D +ℤ dot (drop (suc k) r) (map pos xs)

pub record IsBound (D : ℕ) (a L : ℤ) (b : Fraction) : Type 0 where
  pub positive : pos 1 ≤ℤ b.den
  pub is : b.num *ℤ (a *ℤ pos D) ≡ neg_ℤ L *ℤ b.den

mul_one : (x : ℤ) → x *ℤ pos 1 ≡ x
mul_one x = omega (arith, ints)

bound_core : (n d a D L bn bd : ℤ) → pos 1 ≤ℤ d → n *ℤ D ≡ L *ℤ d → bn *ℤ (d *ℤ a) ≡ (neg_ℤ n *ℤ pos 1) *ℤ bd → bn *ℤ (a *ℤ D) ≡ neg_ℤ L *ℤ bd
bound_core n d a D L bn bd pd en eb =
    let one : d *ℤ (bn *ℤ (a *ℤ D)) ≡ (bn *ℤ (d *ℤ a)) *ℤ D = simp rings in
    let two : ((neg_ℤ n *ℤ pos 1) *ℤ bd) *ℤ D ≡ neg_ℤ (n *ℤ D) *ℤ bd = rw (mul_one (neg_ℤ n)) (simp rings) in
    let three : neg_ℤ (L *ℤ d) *ℤ bd ≡ d *ℤ (neg_ℤ L *ℤ bd) = simp rings (omega (arith, ints)) in
    cancel d (bn *ℤ (a *ℤ D)) (neg_ℤ L *ℤ bd) pd (one ∙ ap (λ z. z *ℤ D) eb ∙ two ∙ ap (λ z. neg_ℤ z *ℤ bd) en ∙ three)

pub bound_is : (D k : ℕ) (vs : List Fraction) (xs : List ℕ) (r : List ℤ) (b : Fraction) → Worths D vs xs → pos 1 ≤ℤ entry r k → bound k vs r ≡ Some b → IsBound D (entry r k) (rest_worth D k xs r) b
unfolding bound ratio
bound_is D k vs xs r b w up e =
    let one = went (sum_on (whole (entry r 0)) (drop (suc k) r) vs) (λ s. quotient (negated s) (whole (entry r k))) b e in
    let s = one.value in
    let ws = worth_sum_on D (drop (suc k) r) vs xs (whole (entry r 0)) s (entry r 0 *ℤ pos D) (worth_whole D (entry r 0)) w one.was in
    let low = lowest (neg_ℤ s.num *ℤ pos 1) (s.den *ℤ entry r k) in
    let is : IsLowest (neg_ℤ s.num *ℤ pos 1) (s.den *ℤ entry r k) b =
    subst (IsLowest (neg_ℤ s.num *ℤ pos 1) (s.den *ℤ entry r k)) (fits_is _ low b one.next) (lowest_is (neg_ℤ s.num *ℤ pos 1) (s.den *ℤ entry r k) (mul_pos s.den (entry r k) ws.positive up)) in
    record {
      positive = is.positive;
      is = bound_core s.num s.den (entry r k) (pos D) (rest_worth D k xs r) b.num b.den ws.positive ws.is is.value;
    }

-- ---- the greatest bound
-- x is at most y
abbrev pub AtMost : Fraction → Fraction → Type 0
AtMost x y = (y.den *ℤ x.num) ≤ℤ (x.den *ℤ y.num)

abbrev pub Positive : Fraction → Type 0
Positive x = pos 1 ≤ℤ x.den

at_most_trans : (x y z : Fraction) → Positive x → Positive y → Positive z → AtMost x y → AtMost y z → AtMost x z
at_most_trans x y z px py pz a b = cross_trans x.den y.den z.den x.num y.num z.num px py pz a b

lt_times_pos : (x y : ℤ) (g : ℕ) → 0 < g → int_lt (x *ℤ pos g) (y *ℤ pos g) ≡ int_lt x y
lt_times_pos x y zero p = absurd (omega arith)
lt_times_pos x y (suc n) p = lt_times x y n (int_lt x y) refl

turned : (x y z : ℤ) → (x *ℤ y) *ℤ z ≡ x *ℤ (z *ℤ y)
turned x y z = simp rings

exceeds_is : (x y : Fraction) (more : Bool) → Positive x → Positive y → exceeds x y ≡ Some more → more ≡ int_lt (y.num *ℤ x.den) (x.num *ℤ y.den)
unfolding exceeds shared_of scaled_of
exceeds_is x y more px py e =
    let g = gcd (unsigned_abs x.den) (unsigned_abs y.den) in
    let is = gcd_is (unsigned_abs x.den) (unsigned_abs y.den) in
    let gp : 0 < g = gcd_pos (unsigned_abs x.den) (unsigned_abs y.den) g (abs_pos y.den py) is in
    let ex = whole_part x.den g px is.0 in
    let ey = whole_part y.den g py is.1 in
    let l : (x.num *ℤ pos (unsigned_abs y.den / g)) *ℤ pos g ≡ x.num *ℤ y.den = turned x.num (pos (unsigned_abs y.den / g)) (pos g) ∙ ap (λ z. x.num *ℤ z) (sym ey) in
    let r : (y.num *ℤ pos (unsigned_abs x.den / g)) *ℤ pos g ≡ y.num *ℤ x.den = turned y.num (pos (unsigned_abs x.den / g)) (pos g) ∙ ap (λ z. y.num *ℤ z) (sym ex) in
    let same = lt_times_pos (y.num *ℤ pos (unsigned_abs x.den / g)) (x.num *ℤ pos (unsigned_abs y.den / g)) g gp in
    sym (fits_is _ (int_lt (y.num *ℤ pos (unsigned_abs x.den / g)) (x.num *ℤ pos (unsigned_abs y.den / g))) more e) ∙ sym same ∙ ap (λ z. int_lt z ((x.num *ℤ pos (unsigned_abs y.den / g)) *ℤ pos g)) r ∙ ap (λ z. int_lt (y.num *ℤ x.den) z) l

-- a row whose bound is at most v
pub record Below (k : ℕ) (vs : List Fraction) (v : Fraction) (r : List ℤ) : Type 0 where
  pub least : Fraction
  pub was : bound k vs r ≡ Some least
  pub at_most : AtMost least v

pub record Attained (k : ℕ) (vs : List Fraction) (v : Fraction) (rows : List (List ℤ)) : Type 0 where
  pub row : List ℤ
  pub here : In row rows
  pub is : bound k vs row ≡ Some v

pub record Greatest (k : ℕ) (vs : List Fraction) (best v : Fraction) (rows : List (List ℤ)) : Type 0 where
  pub positive : Positive v
  pub above : AtMost best v
  pub below : (r : List ℤ) → In r rows → Below k vs v r
  pub attained : (v ≡ best) ⊎ Attained k vs v rows

pub greatest_is : (k : ℕ) (vs : List Fraction) (best v : Fraction) (rows : List (List ℤ)) → Positive best → ((r : List ℤ) (b : Fraction) → In r rows → bound k vs r ≡ Some b → Positive b) →
    greatest k vs best rows ≡ Some v → Greatest k vs best v rows
greatest_is k vs best v [] pb good e = record {
  positive = subst Positive (same_some best v e) pb;
  above = subst (AtMost best) (same_some best v e) (omega (arith, ints));
  below = λ r i. absurd i;
  attained = inl (sym (same_some best v e));
}
greatest_is k vs best v (r ∷ rs) pb good e =
    let one = went (bound k vs r) (λ b. then_do (exceeds b best) (λ more. greatest k vs (cond more b best) rs)) v e in
    let b = one.value in
    let two = went (exceeds b best) (λ more. greatest k vs (cond more b best) rs) v one.next in
    let pr = good r b (inl refl) one.was in
    turn b one.was pr two.value (exceeds_is b best two.value pr pb two.was) (greatest_is k vs (cond two.value b best) v rs (either two.value b pr) (λ r b i. good r b (inr i)) two.next)
  where
    either : (more : Bool) (b : Fraction) → Positive b → Positive (cond more b best)
    either true b p = p
    either false b p = pb

    later : Attained k vs v rs → Attained k vs v (r ∷ rs)
    later a = record { row = a.row; here = inr a.here; is = a.is }

    turn : (b : Fraction) → bound k vs r ≡ Some b → Positive b → (more : Bool) → more ≡ int_lt (best.num *ℤ b.den) (b.num *ℤ best.den) → Greatest k vs (cond more b best) v rs → Greatest k vs best v (r ∷ rs)
    turn b was pr true m g =
        let less : AtMost best b = let lt = lt-true (best.num *ℤ b.den) (b.num *ℤ best.den) (sym m) in omega (arith, ints, lt) in
        record {
          positive = g.positive;
          above = at_most_trans best b v pb pr g.positive less g.above;
          below = λ q i. elim i [ inl is ↦ subst (Below k vs v) is (record { least = b; was = was; at_most = g.above }) | inr h ↦ g.below q h ];
          attained = elim g.attained [ inl is ↦ inr (record { row = r; here = inl refl; is = was ∙ ap Some (sym is) }) | inr a ↦ inr (later a) ];
        }
    turn b was pr false m g =
        let less : AtMost b best = let lt = lt-false (best.num *ℤ b.den) (b.num *ℤ best.den) (sym m) in omega (arith, ints, lt) in
        record {
          positive = g.positive;
          above = g.above;
          below = λ q i. elim i [ inl is ↦ subst (Below k vs v) is (record { least = b; was = was; at_most = at_most_trans b best v pr pb g.positive less g.above }) | inr h ↦ g.below q h ];
          attained = elim g.attained [ inl is ↦ inl is | inr a ↦ inr (later a) ];
        }
