-- Each row carries multipliers of the given rows, which make at most this row of them.
use Rattle.std.proofs.Common.{◌≡◌, ℕ, zero, suc, ℤ, pos, List, [], ◌∷◌, ◌+◌, ◌/◌, ◌≤◌, ◌+ℤ◌, ◌*ℤ◌, map, length, drop, refl, sym, subst, ap, ◌∙◌, arith, inl, inr}
use Rattle.std.specs.Prelude.{◌≤ℤ◌, unsigned_abs, int_div}
use Rattle.std.specs.Int.{◌∣◌}
use Rattle.std.proofs.lemmas.Nat.Gcd.{dvd-zero}
use Rattle.std.proofs.lemmas.Int.{ints}
use Rattle.exact128.specs.Gcd.{gcd}
use Rattle.exact128.proofs.Rings.{rings, mul_nonneg, nonneg_factor, mul_le, mul_cancel, cancel}
use Rattle.exact128.specs.Sums.{entry, dot}
use Rattle.linear_rows.specs.Rows.{column}
use Rattle.linear_rows.specs.Elimination.{crossed}
use Rattle.linear_rows.specs.RowSums.{scaled, added}
use Rattle.linear_rows.specs.Cleaning.{row_gcd}
use Rattle.linear_rows.specs.Equation.{step}
use Rattle.linear_rows.specs.Step.{eliminated, all_eliminated}
use Rattle.linear_rows.specs.Members.{In}
use Rattle.linear_rows.proofs.Bounding.{value-added, value-scaled}
use Rattle.linear_rows.proofs.Cleanings.{divides_all, exact_div, value_reduced, value_none, none}
use Rattle.linear_rows.proofs.Whole.{of-cleaned}
use Rattle.linear_rows.proofs.Sequence.{entry-reduced}
use Rattle.linear_rows.proofs.Soundness.{entry-scaled, entry-added}
use Rattle.linear_rows.proofs.Origins.{step_origin}

pub record Carries (n : ℕ) (given : List (List ℤ)) (q : List ℤ) : Type 0 where
  pub long : length q ≡ n + 2 + length given
  pub natural : (j : ℕ) → pos 0 ≤ℤ entry (drop (n + 2) q) j
  pub columns : (j : ℕ) → 1 ≤ j → j ≤ n → dot (drop (n + 2) q) (column given j) ≤ℤ entry q j
  pub constant : dot (drop (n + 2) q) (column given 0) ≡ entry q 0 +ℤ entry q (n + 1)

-- ---- combining
drop-added : (k : ℕ) (xs ys : List ℤ) → drop k (added xs ys) ≡ added (drop k xs) (drop k ys)
drop-added zero xs ys = refl
drop-added (suc k) [] ys = refl
drop-added (suc k) (x ∷ xs) [] = sym (added-none (drop k xs))
  where
    added-none : (xs : List ℤ) → added xs [] ≡ xs
    added-none [] = refl
    added-none (x ∷ xs) = refl
drop-added (suc k) (x ∷ xs) (y ∷ ys) = drop-added k xs ys

drop-map : (f : ℤ → ℤ) (k : ℕ) (xs : List ℤ) → drop k (map f xs) ≡ map f (drop k xs)
drop-map f zero xs = refl
drop-map f (suc k) [] = refl
drop-map f (suc k) (x ∷ xs) = drop-map f k xs

pub length-added : (xs ys : List ℤ) → length xs ≡ length ys → length (added xs ys) ≡ length xs
length-added [] [] e = refl
length-added [] (y ∷ ys) e = absurd (omega arith)
length-added (x ∷ xs) [] e = absurd (omega arith)
length-added (x ∷ xs) (y ∷ ys) e = ap suc (length-added xs ys (omega arith))

pub length-map-of : (f : ℤ → ℤ) (xs : List ℤ) → length (map f xs) ≡ length xs
length-map-of f [] = refl
length-map-of f (x ∷ xs) = ap suc (length-map-of f xs)

pub added_carries : (n : ℕ) (given : List (List ℤ)) (a b : ℕ) (r s : List ℤ) → Carries n given r → Carries n given s → Carries n given (added (scaled (pos a) r) (scaled (pos b) s))
added_carries n given a b r s cr cs =
    let k = n + 2 in
    let parts : drop k (added (scaled (pos a) r) (scaled (pos b) s)) ≡ added (scaled (pos a) (drop k r)) (scaled (pos b) (drop k s)) =
    drop-added k (scaled (pos a) r) (scaled (pos b) s) ∙ both_same _ _ _ _ (drop-map (λ x. pos a *ℤ x) k r) (drop-map (λ x. pos b *ℤ x) k s) in
    record {
      long = length-added (scaled (pos a) r) (scaled (pos b) s) (length-map-of (λ x. pos a *ℤ x) r ∙ cr.long ∙ sym cs.long ∙ sym (length-map-of (λ x. pos b *ℤ x) s)) ∙ length-map-of (λ x. pos a *ℤ x) r ∙ cr.long;
      natural = λ j. subst (λ l. pos 0 ≤ℤ entry l j) (sym parts) (sum_natural j);
      columns = λ j l h. subst (λ l. dot l (column given j) ≤ℤ entry (added (scaled (pos a) r) (scaled (pos b) s)) j) (sym parts) (sum_column j l h);
      constant = ap (λ l. dot l (column given 0)) parts ∙ sum_constant;
    }
  where
    both_same : (x y z w : List ℤ) → x ≡ y → z ≡ w → added x z ≡ added y w
    both_same x y z w e f = cc

    at : (xs ys : List ℤ) (j : ℕ) → entry (added (scaled (pos a) xs) (scaled (pos b) ys)) j ≡ pos a *ℤ entry xs j +ℤ pos b *ℤ entry ys j
    at xs ys j = entry-added (scaled (pos a) xs) (scaled (pos b) ys) j ∙ rw (entry-scaled (pos a) xs j, entry-scaled (pos b) ys j) refl

    dots : (ps : List ℤ) → dot (added (scaled (pos a) (drop (n + 2) r)) (scaled (pos b) (drop (n + 2) s))) ps ≡ pos a *ℤ dot (drop (n + 2) r) ps +ℤ pos b *ℤ dot (drop (n + 2) s) ps
    dots ps = value-added (scaled (pos a) (drop (n + 2) r)) (scaled (pos b) (drop (n + 2) s)) ps ∙ rw (value-scaled (pos a) (drop (n + 2) r) ps, value-scaled (pos b) (drop (n + 2) s) ps) refl

    sum_natural : (j : ℕ) → pos 0 ≤ℤ entry (added (scaled (pos a) (drop (n + 2) r)) (scaled (pos b) (drop (n + 2) s))) j
    sum_natural j =
        let x = mul_nonneg (pos a) (entry (drop (n + 2) r) j) (omega (arith, ints)) (cr.natural j) in
        let y = mul_nonneg (pos b) (entry (drop (n + 2) s) j) (omega (arith, ints)) (cs.natural j) in
        rw (at (drop (n + 2) r) (drop (n + 2) s) j) (omega (arith, ints))

    sum_column : (j : ℕ) → 1 ≤ j → j ≤ n → dot (added (scaled (pos a) (drop (n + 2) r)) (scaled (pos b) (drop (n + 2) s))) (column given j) ≤ℤ entry (added (scaled (pos a) r) (scaled (pos b) s)) j
    sum_column j l h =
        let x = mul_le (pos a) _ _ (omega (arith, ints)) (cr.columns j l h) in
        let y = mul_le (pos b) _ _ (omega (arith, ints)) (cs.columns j l h) in
        rw (dots (column given j), at r s j) (omega (arith, ints))

    sum_constant : dot (added (scaled (pos a) (drop (n + 2) r)) (scaled (pos b) (drop (n + 2) s))) (column given 0) ≡ entry (added (scaled (pos a) r) (scaled (pos b) s)) 0 +ℤ entry (added (scaled (pos a) r) (scaled (pos b) s)) (n + 1)
    sum_constant =
        let e : pos a *ℤ (entry r 0 +ℤ entry r (n + 1)) +ℤ pos b *ℤ (entry s 0 +ℤ entry s (n + 1)) ≡ (pos a *ℤ entry r 0 +ℤ pos b *ℤ entry s 0) +ℤ (pos a *ℤ entry r (n + 1) +ℤ pos b *ℤ entry s (n + 1)) = simp rings (omega (arith, ints)) in
        dots (column given 0) ∙ rw (cr.constant, cs.constant, at r s 0, at r s (n + 1)) e

-- ---- dividing
in-drop : (k : ℕ) (xs : List ℤ) (x : ℤ) → In x (drop k xs) → In x xs
in-drop zero xs x h = h
in-drop (suc k) [] x h = h
in-drop (suc k) (y ∷ ys) x h = inr (in-drop k ys x h)

entry_divides_drop : (g k : ℕ) (xs : List ℤ) (j : ℕ) → ((x : ℤ) → In x xs → g ∣ unsigned_abs x) → g ∣ unsigned_abs (entry (drop k xs) j)
entry_divides_drop g k xs j h = look (drop k xs) j (λ x i. h x (in-drop k xs x i))
  where
    look : (ys : List ℤ) (j : ℕ) → ((x : ℤ) → In x ys → g ∣ unsigned_abs x) → g ∣ unsigned_abs (entry ys j)
    look [] j h = dvd-zero g
    look (y ∷ ys) zero h = h y (inl refl)
    look (y ∷ ys) (suc j) h = look ys j (λ x i. h x (inr i))

divided_carries : (g n : ℕ) (given : List (List ℤ)) (q : List ℤ) → ((x : ℤ) → In x q → g ∣ unsigned_abs x) → Carries n given q → Carries n given (map (λ x. int_div x (pos g)) q)
divided_carries zero n given q d c =
    let parts = drop-map (λ x. int_div x (pos 0)) (n + 2) q in
    let nothing : (j : ℕ) → entry (map (λ x. int_div x (pos 0)) q) j ≡ pos 0 = λ j. entry-reduced 0 q j ∙ none (entry q j) in
    record {
      long = length-map-of (λ x. int_div x (pos 0)) q ∙ c.long;
      natural = λ j. let z : entry (map (λ x. int_div x (pos 0)) (drop (n + 2) q)) j ≡ pos 0 = entry-reduced 0 (drop (n + 2) q) j ∙ none (entry (drop (n + 2) q) j) in subst (λ l. pos 0 ≤ℤ entry l j) (sym parts) (omega (arith, ints, z));
      columns = λ j l h. subst (λ l. dot l (column given j) ≤ℤ entry (map (λ x. int_div x (pos 0)) q) j) (sym parts) (omega (arith, ints, nothing j, value_none (drop (n + 2) q) (column given j)));
      constant = ap (λ l. dot l (column given 0)) parts ∙ value_none (drop (n + 2) q) (column given 0) ∙ omega (arith, ints, nothing 0, nothing (n + 1));
    }
divided_carries (suc g) n given q d c =
    let parts = drop-map (λ x. int_div x (pos (suc g))) (n + 2) q in
    record {
      long = length-map-of (λ x. int_div x (pos (suc g))) q ∙ c.long;
      natural = λ j. subst (λ l. pos 0 ≤ℤ entry l j) (sym parts) (one_natural j);
      columns = λ j l h. subst (λ l. dot l (column given j) ≤ℤ entry (map (λ x. int_div x (pos (suc g))) q) j) (sym parts) (one_column j l h);
      constant = ap (λ l. dot l (column given 0)) parts ∙ one_constant;
    }
  where
    whole_at : (j : ℕ) → pos (suc g) *ℤ entry (map (λ x. int_div x (pos (suc g))) q) j ≡ entry q j
    whole_at j = ap (λ z. pos (suc g) *ℤ z) (entry-reduced (suc g) q j) ∙ exact_div (entry q j) (suc g) (entry_divides_drop (suc g) 0 q j d)

    whole_dot : (ps : List ℤ) → pos (suc g) *ℤ dot (map (λ x. int_div x (pos (suc g))) (drop (n + 2) q)) ps ≡ dot (drop (n + 2) q) ps
    whole_dot ps = value_reduced (suc g) (drop (n + 2) q) ps (λ x i. d x (in-drop (n + 2) q x i))

    one_natural : (j : ℕ) → pos 0 ≤ℤ entry (map (λ x. int_div x (pos (suc g))) (drop (n + 2) q)) j
    one_natural j =
        let e = exact_div (entry (drop (n + 2) q) j) (suc g) (entry_divides_drop (suc g) (n + 2) q j d) in
        rw (entry-reduced (suc g) (drop (n + 2) q) j) (nonneg_factor g (int_div (entry (drop (n + 2) q) j) (pos (suc g))) (rw e (c.natural j)))

    one_column : (j : ℕ) → 1 ≤ j → j ≤ n → dot (map (λ x. int_div x (pos (suc g))) (drop (n + 2) q)) (column given j) ≤ℤ entry (map (λ x. int_div x (pos (suc g))) q) j
    one_column j l h = mul_cancel (pos (suc g)) _ _ (omega (arith, ints)) (rw (whole_dot (column given j), whole_at j) (c.columns j l h))

    one_constant : dot (map (λ x. int_div x (pos (suc g))) (drop (n + 2) q)) (column given 0) ≡ entry (map (λ x. int_div x (pos (suc g))) q) 0 +ℤ entry (map (λ x. int_div x (pos (suc g))) q) (n + 1)
    one_constant =
        let split : pos (suc g) *ℤ (entry (map (λ x. int_div x (pos (suc g))) q) 0 +ℤ entry (map (λ x. int_div x (pos (suc g))) q) (n + 1)) ≡ pos (suc g) *ℤ entry (map (λ x. int_div x (pos (suc g))) q) 0 +ℤ pos (suc g) *ℤ entry (map (λ x. int_div x (pos (suc g))) q) (n + 1) = simp rings (omega (arith, ints)) in
        cancel (pos (suc g)) _ _ (omega (arith, ints)) (whole_dot (column given 0) ∙ c.constant ∙ sym (split ∙ rw (whole_at 0, whole_at (n + 1)) refl))

-- ---- steps
abbrev pub AllCarry : ℕ → List (List ℤ) → List (List ℤ) → Type 0
AllCarry n given rows = (q : List ℤ) → In q rows → Carries n given q

crossed_carries : (n k : ℕ) (given : List (List ℤ)) (r s : List ℤ) → Carries n given r → Carries n given s → Carries n given (crossed k r s)
unfolding crossed
crossed_carries n k given r s cr cs =
    let g = gcd (unsigned_abs (entry r k)) (unsigned_abs (entry s k)) in
    added_carries n given (unsigned_abs (entry s k) / g) (unsigned_abs (entry r k) / g) r s cr cs

pub step_carries : (n m k : ℕ) (given rows : List (List ℤ)) → k ≤ m → AllCarry n given rows → AllCarry n given (eliminated m k rows)
step_carries n m k given rows km c q i =
    let y = of-cleaned m (step (m + 1) k rows) q i in
    let cy : Carries n given y.0 = elim (step_origin (m + 1) k rows y.0 (omega arith) y.1) [
      | inl a ↦ c y.0 a.0
      | inr p ↦ subst (Carries n given) p.is (crossed_carries n k given p.up p.down (c p.up p.up_in) (c p.down p.down_in))
    ] in
    subst (Carries n given) y.2 (divided_carries (row_gcd y.0) n given y.0 (divides_all y.0) cy)

pub all_carry : (n m : ℕ) (ks : List ℕ) (given rows : List (List ℤ)) → ((k : ℕ) → In k ks → k ≤ m) → AllCarry n given rows → AllCarry n given (all_eliminated m ks rows)
all_carry n m [] given rows w c = c
all_carry n m (k ∷ ks) given rows w c = all_carry n m ks given (eliminated m k rows) (λ x i. w x (inr i)) (step_carries n m k given rows (w k (inl refl)) c)
