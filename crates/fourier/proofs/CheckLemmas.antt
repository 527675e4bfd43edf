-- The test of multipliers with scale 0 is in numbers that fit exactly where `refutes_in` says so.
use Rattle.std.proofs.Common.{◌≡◌, ℕ, zero, suc, ℤ, pos, List, [], ◌∷◌, ◌+◌, ◌<◌, ◌≤◌, ◌+ℤ◌, ◌-ℤ◌, ◌*ℤ◌, true, false, inl, inr, ◌⊎◌, take, length, refl, sym, subst, ◌∙◌, arith}
use Rattle.std.specs.Prelude.{◌&&◌}
use Rattle.std.specs.Cmp.Derive.{both_true}
use Rattle.std.proofs.lemmas.Int.{ints}
use Rattle.std.proofs.lemmas.List.{length-map}
use Rattle.exact128.specs.Fits.{Fits, fits}
use Rattle.exact128.specs.Sums.{entry, dot, DotFits}
use Rattle.exact128.proofs.FitsLemmas.{to_fits, of_fits, both, either_bool}
use Rattle.linear_rows.specs.Rows.{column}
use Rattle.linear_rows.specs.Proves.{goal_number, ColumnFits, AllColumnsFit, Refutes}
use Rattle.linear_rows.specs.Verdict.{Says}
use Rattle.linear_rows.specs.Solving.{sums_fit, refutes_in}
use Rattle.linear_rows.specs.declared.multipliers.Proof.TheVariants.{Holds, Fails, Wide}

-- ---- products and running sums on top of s
abbrev ProductsFit : List ℤ → List ℤ → Type 0
ProductsFit xs ys = (k : ℕ) → k < length xs → Fits (entry xs k *ℤ entry ys k)

abbrev SumsFit : ℤ → List ℤ → List ℤ → Type 0
SumsFit s xs ys = (k : ℕ) → k < length xs → Fits (s +ℤ dot (take (suc k) xs) (take (suc k) ys))

products_of : (s : ℤ) (xs ys : List ℤ) → length xs ≡ length ys → sums_fit s xs ys ≡ true → ProductsFit xs ys
products_of s [] ys e t k h = absurd (omega arith)
products_of s (x ∷ xs) [] e t k h = absurd (omega arith)
products_of s (x ∷ xs) (y ∷ ys) e t zero h =
    let two = both (fits (x *ℤ y) && fits (s +ℤ x *ℤ y)) (sums_fit (s +ℤ x *ℤ y) xs ys) t in
    of_fits (x *ℤ y) (both (fits (x *ℤ y)) (fits (s +ℤ x *ℤ y)) two.0).0
products_of s (x ∷ xs) (y ∷ ys) e t (suc k) h =
    let two = both (fits (x *ℤ y) && fits (s +ℤ x *ℤ y)) (sums_fit (s +ℤ x *ℤ y) xs ys) t in
    products_of (s +ℤ x *ℤ y) xs ys (omega arith) two.1 k (omega arith)

first_sum : (s p : ℤ) → s +ℤ (p +ℤ pos 0) ≡ s +ℤ p
first_sum s p = omega (arith, ints)

later_sum : (s p d : ℤ) → s +ℤ (p +ℤ d) ≡ (s +ℤ p) +ℤ d
later_sum s p d = omega (arith, ints)

sums_of : (s : ℤ) (xs ys : List ℤ) → length xs ≡ length ys → sums_fit s xs ys ≡ true → SumsFit s xs ys
unfolding dot
sums_of s [] ys e t k h = absurd (omega arith)
sums_of s (x ∷ xs) [] e t k h = absurd (omega arith)
sums_of s (x ∷ xs) (y ∷ ys) e t zero h =
    let two = both (fits (x *ℤ y) && fits (s +ℤ x *ℤ y)) (sums_fit (s +ℤ x *ℤ y) xs ys) t in
    subst Fits (sym (first_sum s (x *ℤ y))) (of_fits (s +ℤ x *ℤ y) (both (fits (x *ℤ y)) (fits (s +ℤ x *ℤ y)) two.0).1)
sums_of s (x ∷ xs) (y ∷ ys) e t (suc k) h =
    let two = both (fits (x *ℤ y) && fits (s +ℤ x *ℤ y)) (sums_fit (s +ℤ x *ℤ y) xs ys) t in
    subst Fits (sym (later_sum s (x *ℤ y) (dot (take (suc k) xs) (take (suc k) ys)))) (sums_of (s +ℤ x *ℤ y) xs ys (omega arith) two.1 k (omega arith))

all_fit : (s : ℤ) (xs ys : List ℤ) → length xs ≡ length ys → ProductsFit xs ys → SumsFit s xs ys → sums_fit s xs ys ≡ true
unfolding dot
all_fit s [] ys e p q = refl
all_fit s (x ∷ xs) [] e p q = absurd (omega arith)
all_fit s (x ∷ xs) (y ∷ ys) e p q =
    both_true (both_true (to_fits (x *ℤ y) (p 0 (omega arith))) (to_fits (s +ℤ x *ℤ y) (subst Fits (first_sum s (x *ℤ y)) (q 0 (omega arith)))))
    (all_fit (s +ℤ x *ℤ y) xs ys (omega arith) (λ k h. p (suc k) (omega arith)) (λ k h. subst Fits (later_sum s (x *ℤ y) (dot (take (suc k) xs) (take (suc k) ys))) (q (suc k) (omega arith))))

zero_sum : (d : ℤ) → pos 0 +ℤ d ≡ d
zero_sum d = omega (arith, ints)

dot_fits : (n : ℕ) (xs ys : List ℤ) → n ≡ length xs → length xs ≡ length ys → sums_fit (pos 0) xs ys ≡ true → DotFits n xs ys
unfolding dot
dot_fits n xs ys en e t = record { products = λ k h. products_of (pos 0) xs ys e t k (omega arith); sums = sums }
  where
    sums : (k : ℕ) → k ≤ n → Fits (dot (take k xs) (take k ys))
    sums zero h = omega (arith, ints)
    sums (suc k) h = subst Fits (zero_sum (dot (take (suc k) xs) (take (suc k) ys))) (sums_of (pos 0) xs ys e t k (omega arith))

fits_dot : (n : ℕ) (xs ys : List ℤ) → n ≡ length xs → length xs ≡ length ys → DotFits n xs ys → sums_fit (pos 0) xs ys ≡ true
fits_dot n xs ys en e d =
    all_fit (pos 0) xs ys e (λ k h. d.products k (omega arith)) (λ k h. subst Fits (sym (zero_sum (dot (take (suc k) xs) (take (suc k) ys)))) (d.sums (suc k) (omega arith)))

-- ---- columns
same_goal : (target : List ℤ) (k : ℕ) → goal_number (pos 0) target k ≡ goal_number (pos 0) [] k
same_goal target zero = refl
same_goal target (suc k) = refl

length-column : (rows : List (List ℤ)) (k : ℕ) → length (column rows k) ≡ length rows
length-column rows k = length-map rows (λ row. entry row k)

column_true : (rows : List (List ℤ)) (ms target : List ℤ) (k : ℕ) → length ms ≡ length rows → ColumnFits rows ms target (pos 0) k → (sums_fit (pos 0) ms (column rows k) && fits (goal_number (pos 0) [] k -ℤ dot ms (column rows k))) ≡ true
column_true rows ms target k e f =
    both_true (fits_dot (length rows) ms (column rows k) (sym e) (e ∙ sym (length-column rows k)) f.sums)
    (to_fits (goal_number (pos 0) [] k -ℤ dot ms (column rows k)) (subst (λ g. Fits (g -ℤ dot ms (column rows k))) (same_goal target k) f.rest))

column_of : (rows : List (List ℤ)) (ms target : List ℤ) (k : ℕ) → length ms ≡ length rows → (sums_fit (pos 0) ms (column rows k) && fits (goal_number (pos 0) [] k -ℤ dot ms (column rows k))) ≡ true → ColumnFits rows ms target (pos 0) k
column_of rows ms target k e t =
    let two = both (sums_fit (pos 0) ms (column rows k)) (fits (goal_number (pos 0) [] k -ℤ dot ms (column rows k))) t in
    record {
      sums = dot_fits (length rows) ms (column rows k) (sym e) (e ∙ sym (length-column rows k)) two.0;
      goal = goal_fits k;
      rest = subst (λ g. Fits (g -ℤ dot ms (column rows k))) (sym (same_goal target k)) (of_fits (goal_number (pos 0) [] k -ℤ dot ms (column rows k)) two.1);
    }
  where
    goal_fits : (k : ℕ) → Fits (goal_number (pos 0) target k)
    goal_fits zero = omega (arith, ints)
    goal_fits (suc k) = omega (arith, ints)

all_true : (rows : List (List ℤ)) (ms target : List ℤ) (k n : ℕ) → length ms ≡ length rows → ((j : ℕ) → k ≤ j → j < k + n → ColumnFits rows ms target (pos 0) j) → refutes_in rows ms k n ≡ true
all_true rows ms target k zero e h = refl
all_true rows ms target k (suc n) e h =
    both_true (column_true rows ms target k e (h k (omega arith) (omega arith))) (all_true rows ms target (suc k) n e (λ j l g. h j (omega arith) (omega arith)))

all_of_true : (rows : List (List ℤ)) (ms target : List ℤ) (k n : ℕ) → length ms ≡ length rows → refutes_in rows ms k n ≡ true → (j : ℕ) → k ≤ j → j < k + n → ColumnFits rows ms target (pos 0) j
all_of_true rows ms target k zero e t j l h = absurd (omega arith)
all_of_true rows ms target k (suc n) e t j l h =
    let two = both (sums_fit (pos 0) ms (column rows k) && fits (goal_number (pos 0) [] k -ℤ dot ms (column rows k))) (refutes_in rows ms (suc k) n) t in
    look (first_or k j l) (λ more. all_of_true rows ms target (suc k) n e two.1 j more (omega arith)) two.0
  where
    first_or : (k j : ℕ) → k ≤ j → (k ≡ j) ⊎ (suc k ≤ j)
    first_or k j l = search arith

    look : (k ≡ j) ⊎ (suc k ≤ j) → (suc k ≤ j → ColumnFits rows ms target (pos 0) j) → (sums_fit (pos 0) ms (column rows k) && fits (goal_number (pos 0) [] k -ℤ dot ms (column rows k))) ≡ true → ColumnFits rows ms target (pos 0) j
    look (inl is) later here = subst (ColumnFits rows ms target (pos 0)) is (column_of rows ms target k e here)
    look (inr more) later here = later more

-- ---- what the test shows
pub holds_tells : (n : ℕ) (rows : List (List ℤ)) (ms target : List ℤ) → length target ≡ n + 1 → length ms ≡ length rows → Says rows ms target (pos 0) Holds → refutes_in rows ms 0 (n + 1) ≡ true
holds_tells n rows ms target et e s = all_true rows ms target 0 (n + 1) e (λ j l h. (s j (omega arith)).0)

pub wide_tells : (n : ℕ) (rows : List (List ℤ)) (ms target : List ℤ) → length target ≡ n + 1 → length ms ≡ length rows → Says rows ms target (pos 0) Wide → refutes_in rows ms 0 (n + 1) ≡ false
wide_tells n rows ms target et e s = either_bool (refutes_in rows ms 0 (n + 1)) (λ t. s.3 (all_of_true rows ms target 0 (n + 1) e t s.0 (omega arith) (let l = s.1 in omega arith)))

pub fails_not : (n : ℕ) (rows : List (List ℤ)) (ms target : List ℤ) → length target ≡ n + 1 → Refutes n rows ms → Says rows ms target (pos 0) Fails → ⊥
fails_not n rows ms target et r s =
    let q = r.proves target et s.0 s.1 in
    let f = s.3.1 in
    absurd (omega (arith, ints, q, f))

-- each number of the test of all columns fits
pub all_columns : (n : ℕ) (rows : List (List ℤ)) (ms target : List ℤ) → length target ≡ n + 1 → length ms ≡ length rows → refutes_in rows ms 0 (n + 1) ≡ true → AllColumnsFit rows ms target (pos 0)
all_columns n rows ms target et e t k h = all_of_true rows ms target 0 (n + 1) e t k (omega arith) (omega arith)
