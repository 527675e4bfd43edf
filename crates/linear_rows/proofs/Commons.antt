-- The values are at least 0, and become naturals over a common denominator.
use Rattle.std.proofs.Common.{◌≡◌, ℕ, zero, suc, ℤ, pos, List, [], ◌∷◌, ◌*◌, ◌/◌, ◌≤◌, ◌*ℤ◌, Some, map, length, refl, sym, subst, ap, ◌∙◌, arith}
use Rattle.std.specs.Prelude.{◌≤ℤ◌, unsigned_abs}
use Rattle.std.specs.Int.{◌∣◌}
use Rattle.std.proofs.lemmas.Int.{ints}
use Rattle.std.proofs.lemmas.Nat.Gcd.{dvd_trans, dvd_refl}
use Rattle.std.proofs.Math.Nat.{mul-div_cancel', dvd-mul_left, dvd-mul_right}
use Rattle.exact128.specs.Gcd.{gcd}
use Rattle.exact128.proofs.Gcds.{gcd_is}
use Rattle.linear_rows.specs.Elimination.{rising, is_positive}
use Rattle.linear_rows.specs.Step.{eliminated}
use Rattle.exact128.specs.Sums.{entry}
use Rattle.linear_rows.proofs.Members.{of-filter}
use Rattle.linear_rows.proofs.Steps.{positive_is}
use Rattle.exact128.specs.Fits.{fits}
use Rattle.exact128.specs.Fractions.{Fraction, whole, where_fits, then_do}
use Rattle.linear_rows.specs.Solving.{greatest, values_of, common_of, made_whole, whole_values}
use Rattle.linear_rows.proofs.Worths.{went, same_some, fits_is, Worths, bound_is, greatest_is}

-- a fraction that is at least 0
pub record IsValue (v : Fraction) : Type 0 where
  pub positive : pos 1 ≤ℤ v.den
  pub natural : pos 0 ≤ℤ v.num

abbrev pub AreValues : List Fraction → Type 0
AreValues [] = Unit {0}
AreValues (v ∷ vs) = IsValue v × AreValues vs

-- over 0 each fraction is worth 0, so bounds have denominators at least 1
nothing : List Fraction → List ℕ
nothing [] = []
nothing (v ∷ vs) = 0 ∷ nothing vs

worth_nothing : (vs : List Fraction) → AreValues vs → Worths 0 vs (nothing vs)
unfolding nothing
worth_nothing [] a = tt
worth_nothing (v ∷ vs) a = (record { positive = a.0.positive; is = omega (arith, ints) }, worth_nothing vs a.1)

greatest_value : (k : ℕ) (vs : List Fraction) (v : Fraction) (rows : List (List ℤ)) → AreValues vs → greatest k vs (whole (pos 0)) (rising k rows) ≡ Some v → IsValue v
greatest_value k vs v rows a e =
    let best = greatest_is k vs (whole (pos 0)) v (rising k rows) (omega (arith, ints))
    (λ r b i was. (bound_is 0 k vs (nothing vs) r b (worth_nothing vs a) (positive_is (entry r k) (of-filter (λ r. is_positive (entry r k)) rows r i).1) was).positive) e in
    let above = best.above in
    record { positive = best.positive; natural = omega (arith, ints) }

pub are_values : (m : ℕ) (ks : List ℕ) (rows : List (List ℤ)) (vs : List Fraction) → values_of m ks rows ≡ Some vs → AreValues vs
are_values m [] rows vs e = subst AreValues (same_some [] vs e) tt
are_values m (k ∷ ks) rows vs e =
    let one = went (values_of m ks (eliminated m k rows)) (λ vs. then_do (greatest k vs (whole (pos 0)) (rising k rows)) (λ v. Some (v ∷ vs))) vs e in
    let two = went (greatest k one.value (whole (pos 0)) (rising k rows)) (λ v. Some (v ∷ one.value)) vs one.next in
    let later = are_values m ks (eliminated m k rows) one.value one.was in
    subst AreValues (same_some (two.value ∷ one.value) vs two.next) (greatest_value k one.value two.value rows later two.was, later)

-- ---- a common multiple
abbrev Divide : ℕ → List Fraction → Type 0
Divide D [] = Unit {0}
Divide D (v ∷ vs) = (unsigned_abs v.den ∣ D) × Divide D vs

record Common (c : ℕ) (vs : List Fraction) (d : ℤ) : Type 0 where
  of : ℕ
  is : d ≡ pos of
  some : 1 ≤ of
  goes_into : c ∣ of
  divide : Divide of vs

lcm_pos : (g c d n : ℕ) → g * n ≡ c → 1 ≤ c → 1 ≤ d → 1 ≤ n * d
lcm_pos g c d zero e p q = absurd (omega arith)
lcm_pos g c zero (suc n) e p q = absurd (omega arith)
lcm_pos g c (suc d) (suc n) e p q = omega arith

goes_on : (c b g : ℕ) → g * (c / g) ≡ c → g * (b / g) ≡ b → c ∣ (c / g) * b
goes_on c b g ec eb =
    let e : c * (b / g) ≡ (c / g) * b = omega (arith, ap (λ k. (c / g) * k) eb, ap (λ k. k * (b / g)) ec) in
    subst (λ n. c ∣ n) e (dvd-mul_right c (b / g))

common_is : (c : ℕ) (vs : List Fraction) (d : ℤ) → 1 ≤ c → AreValues vs → common_of (pos c) vs ≡ Some d → Common c vs d
common_is c [] d p a e = record { of = c; is = sym (same_some (pos c) d e); some = p; goes_into = dvd_refl c; divide = tt }
common_is c (v ∷ vs) d p a e =
    let b = unsigned_abs v.den in
    let eb : v.den ≡ pos b = let q = a.0.positive in omega (arith, ints) in
    let g = gcd c b in
    let is = gcd_is c b in
    let ec = mul-div_cancel' g is.0 in
    let more = pos (c / g) *ℤ v.den in
    let em : more ≡ pos ((c / g) * b) = ap (λ z. pos (c / g) *ℤ z) eb in
    let one = went (where_fits (fits more) more) (λ d. common_of d vs) d e in
    let same : one.value ≡ pos ((c / g) * b) = sym (fits_is (fits more) more one.value one.was) ∙ em in
    let next : common_of (pos ((c / g) * b)) vs ≡ Some d = subst (λ z. common_of z vs ≡ Some d) same one.next in
    let bp : 1 ≤ b = let q = a.0.positive in omega (arith, ints) in
    let f = common_is ((c / g) * b) vs d (lcm_pos g c b (c / g) ec p bp) a.1 next in
    record {
      of = f.of;
      is = f.is;
      some = f.some;
      goes_into = dvd_trans c (goes_on c b g ec (mul-div_cancel' g is.1)) f.goes_into;
      divide = (dvd_trans b (dvd-mul_left b (c / g)) f.goes_into, f.divide);
    }

cons_same : (x y : ℤ) (xs ys : List ℤ) → x ≡ y → xs ≡ ys → x ∷ xs ≡ y ∷ ys
cons_same x y xs ys e f = cc

record Made (D : ℕ) (vs : List Fraction) (xs : List ℤ) : Type 0 where
  of : List ℕ
  is : xs ≡ map pos of
  worths : Worths D vs of

made_is : (D : ℕ) (vs : List Fraction) (xs : List ℤ) → AreValues vs → Divide D vs → made_whole (pos D) vs ≡ Some xs → Made D vs xs
made_is D [] xs a d e = record { of = []; is = sym (same_some [] xs e); worths = tt }
made_is D (v ∷ vs) xs a d e =
    let b = unsigned_abs v.den in
    let n = unsigned_abs v.num in
    let x = v.num *ℤ pos (D / b) in
    let eb : v.den ≡ pos b = let q = a.0.positive in omega (arith, ints) in
    let en : v.num ≡ pos n = let q = a.0.natural in omega (arith, ints) in
    let one = went (where_fits (fits x) x) (λ x. then_do (made_whole (pos D) vs) (λ xs. Some (x ∷ xs))) xs e in
    let two = went (made_whole (pos D) vs) (λ xs. Some (one.value ∷ xs)) xs one.next in
    let f = made_is D vs two.value a.1 d.1 two.was in
    let ex : one.value ≡ pos (n * (D / b)) = sym (fits_is (fits x) x one.value one.was) ∙ ap (λ z. z *ℤ pos (D / b)) en in
    let whole : b * (D / b) ≡ D = mul-div_cancel' b d.0 in
    let low : n * D ≡ (n * (D / b)) * b = omega (arith, ap (λ k. n * k) whole) in
    let high : v.num *ℤ pos D ≡ pos (n * (D / b)) *ℤ v.den = rw (en, eb) (ap pos low) in
    record {
      of = n * (D / b) ∷ f.of;
      is = sym (same_some (one.value ∷ two.value) xs two.next) ∙ cons_same one.value (pos (n * (D / b))) two.value (map pos f.of) ex f.is;
      worths = (record { positive = a.0.positive; is = high }, f.worths);
    }

-- the values of the columns as naturals over a common denominator
pub record Wholes (m : ℕ) (ks : List ℕ) (rows : List (List ℤ)) (xs : List ℤ) : Type 0 where
  pub fractions : List Fraction
  pub values : values_of m ks rows ≡ Some fractions
  pub over : ℕ
  pub some : 1 ≤ over
  pub naturals : List ℕ
  pub is : xs ≡ map pos naturals
  pub worths : Worths over fractions naturals

pub wholes_are : (m : ℕ) (ks : List ℕ) (rows : List (List ℤ)) (xs : List ℤ) → whole_values m ks rows ≡ Some xs → Wholes m ks rows xs
unfolding whole_values
wholes_are m ks rows xs e =
    let one = went (values_of m ks rows) (λ vs. then_do (common_of (pos 1) vs) (λ c. made_whole c vs)) xs e in
    let two = went (common_of (pos 1) one.value) (λ c. made_whole c one.value) xs one.next in
    let a = are_values m ks rows one.value one.was in
    let c = common_is 1 one.value two.value (omega arith) a two.was in
    let f = made_is c.of one.value xs a c.divide (subst (λ z. made_whole z one.value ≡ Some xs) c.is two.next) in
    record { fractions = one.value; values = one.was; over = c.of; some = c.some; naturals = f.of; is = f.is; worths = f.worths }

pub worths_length : (D : ℕ) (vs : List Fraction) (xs : List ℕ) → Worths D vs xs → length vs ≡ length xs
worths_length D [] [] w = refl
worths_length D [] (x ∷ xs) w = absurd w
worths_length D (v ∷ vs) [] w = absurd w
worths_length D (v ∷ vs) (x ∷ xs) w = ap suc (worths_length D vs xs w.1)

pub values_length : (m : ℕ) (ks : List ℕ) (rows : List (List ℤ)) (vs : List Fraction) → values_of m ks rows ≡ Some vs → length vs ≡ length ks
values_length m [] rows vs e = rw (← same_some [] vs e) refl
values_length m (k ∷ ks) rows vs e =
    let one = went (values_of m ks (eliminated m k rows)) (λ vs. then_do (greatest k vs (whole (pos 0)) (rising k rows)) (λ v. Some (v ∷ vs))) vs e in
    let two = went (greatest k one.value (whole (pos 0)) (rising k rows)) (λ v. Some (v ∷ one.value)) vs one.next in
    let later = values_length m ks (eliminated m k rows) one.value one.was in
    subst (λ vs. length vs ≡ suc (length ks)) (same_some (two.value ∷ one.value) vs two.next) (ap suc later)
