-- Points of wide numbers at which rows hold and a row fails.
use Rattle.std.proofs.Common.{◌≡◌, ℕ, zero, suc, ◌+◌, ℤ, pos, negsuc, ◌*ℤ◌, int_lt, Bool, true, false, Result, Ok, Err, List, [], ◌∷◌, map, length, get_or, refl, ap, sym, subst, ◌∙◌, arith}
use Rattle.std.specs.Prelude.{All, IfOk, ◌≤ℤ◌}
use Rattle.std.specs.declared.alloc.AllocError.{AllocError}
use Rattle.std.proofs.lemmas.Int.{ints}
use Rattle.std.proofs.lemmas.List.{length-map}
use Rattle.exact128.specs.Sums.{dot}
use Rattle.exact384.specs.declared.integer.Integer.{Integer}
use Rattle.exact384.specs.Value.{value_of}
use Rattle.exact128.proofs.Rings.{rings}
use Rattle.linear_rows.specs.Irredundant.{Fails}
use Rattle.simplex.specs.Telling.{IsWidePoint}
use Rattle.simplex.proofs.WideMultipliers.{naturals}

dot_comm : (xs ys : List ℤ) → dot xs ys ≡ dot ys xs
unfolding dot
dot_comm [] [] = refl
dot_comm [] (y ∷ ys) = refl
dot_comm (x ∷ xs) [] = refl
dot_comm (x ∷ xs) (y ∷ ys) = rw (dot_comm xs ys) (simp rings (omega (arith, ints)))

natural_list : (xs : List ℤ) → All (λ x. pos 0 ≤ℤ x) xs → (ns : List ℕ) × (xs ≡ map pos ns)
natural_list [] h = ([], refl)
natural_list (pos n ∷ xs) h = let more = natural_list xs (λ k d l. h (suc k) d (omega arith)) in (n ∷ more.0, ap (λ l. pos n ∷ l) more.1)
natural_list (negsuc n ∷ xs) h = let bad : pos 0 ≤ℤ negsuc n = h 0 (pos 0) (omega arith) in absurd (omega (arith, ints, bad))

-- numbers of which the first is above 0, and none below
pub wide_point : (n : ℕ) (x : ℤ) (xs : List ℤ) → length xs ≡ n → int_lt (pos 0) x ≡ true → All (λ y. pos 0 ≤ℤ y) (x ∷ xs) → IsWidePoint n (x ∷ xs)
wide_point n (pos zero) xs long above naturals = cc
wide_point n (pos (suc t)) xs long above naturals =
    let rest = natural_list xs (λ k d l. naturals (suc k) d (omega arith)) in
    record {
      t = suc t;
      w = rest.0;
      numbers_are = ap (λ l. pos (suc t) ∷ l) rest.1;
      some = omega arith;
      long = sym (length-map rest.0 pos) ∙ sym (ap length rest.1) ∙ long;
    }
wide_point n (negsuc t) xs long above naturals = cc

pub point_of : (n : ℕ) (xs : List Integer) (d : Integer) → length xs ≡ n + 1 → int_lt (pos 0) (value_of (get_or xs 0 d)) ≡ true → All (λ (x : Integer). pos 0 ≤ℤ value_of x) xs → IsWidePoint n (map value_of xs)
point_of n [] d long above natural = absurd (omega arith)
point_of n (x ∷ xs) d long above natural = wide_point n (value_of x) (map value_of xs) (length-map xs value_of ∙ omega arith) above (naturals (x ∷ xs) natural)

-- 1 times -1
pub minus_one : value_of (record { negative = false; magnitude = record { low = 1; middle = 0; high = 0 } }) *ℤ negsuc 0 ≡ negsuc 0
unfolding value_of
minus_one = refl

pub at_least : (z : ℤ) → int_lt (negsuc 0) z ≡ true → pos 0 ≤ℤ z
at_least z e = omega (arith, ints, e)

pub below : (z : ℤ) → int_lt (negsuc 0) z ≡ false → pos 0 ≤ℤ z → ⊥
below z e h = omega (arith, ints, e, h)

-- a row fails where the rows hold
pub refuted : (n : ℕ) (numbers : List ℤ) (rows : List (List ℤ)) (row : List ℤ) → IsWidePoint n numbers → int_lt (negsuc 0) (dot numbers row) ≡ false → All (λ r. pos 0 ≤ℤ dot numbers r) rows → Fails n rows row
refuted n numbers rows row p fails hold =
    let at : (r : List ℤ) → dot numbers r ≡ dot r (pos p.t ∷ map pos p.w) = λ r. ap (λ l. dot l r) p.numbers_are ∙ dot_comm (pos p.t ∷ map pos p.w) r in
    record {
      t = p.t;
      w = p.w;
      some = p.some;
      long = p.long;
      hold = λ k d l. subst (λ (z : ℤ). pos 0 ≤ℤ z) (at _) (hold k d l);
      fails = λ h. below (dot numbers row) fails (subst (λ (z : ℤ). pos 0 ≤ℤ z) (sym (at row)) h);
    }

pub refuted_if : (n : ℕ) (numbers : List ℤ) (rows : List (List ℤ)) (row : List ℤ) → IsWidePoint n numbers → int_lt (negsuc 0) (dot numbers row) ≡ false
    → (r : Result Bool AllocError) → IfOk r (λ b. b ≡ true → All (λ (xs : List ℤ). pos 0 ≤ℤ dot numbers xs) rows) → IfOk r (λ b. b ≡ true → Fails n rows row)
refuted_if n numbers rows row p fails (Ok b) hold = λ e. refuted n numbers rows row p fails (hold e)
refuted_if n numbers rows row p fails (Err e) hold = tt
