-- Private.
-- Term size obeys the laws of norms: the proof. Nothing here has to be believed.
use Rattle.std.proofs.Common.{◌≡◌, ℕ, zero, suc, ◌+◌, ◌*◌, ◌<◌, ◌≤◌, Bool, true, false, ◌==◌, ◌&&◌, if◌then◌else◌, pos, length, refl, ap, arith, eqb-true, ltb-true, nat_lt}
use Rattle.std.proofs.lemmas.Bool.Decides.{nat_tests}
use Rattle.std.proofs.lemmas.Bool.{and_parts}
use Rattle.std.proofs.lemmas.Int.{ints}
use Rattle.cti_terms.specs.Tree.{Tree, Trees, Variable, Integer, Compound, End, More, size, all_sizes, instance, all_instances, truth, all_truths, is_below, is_rigid}
use Rattle.term_size.specs.Norm.{weighted, value_of, IsNorm}
use Rattle.term_size.specs.Occurrences.{occurrences, all_occurrences, occurrences_from, size_row}

mutual
  -- the size of an instance is the size at the sizes of what stands for the variables
  size_instance : (s : ℕ → ℕ) (a : ℕ → Tree) (t : Tree) → size s (instance a t) ≡ size (λ x. size s (a x)) t
  size_instance s a (Variable x) = refl
  size_instance s a (Integer n) = refl
  size_instance s a (Compound f End) = refl
  size_instance s a (Compound f (More t ts)) = omega (arith, size_instance s a t, all_sizes_instances s a ts)

  all_sizes_instances : (s : ℕ → ℕ) (a : ℕ → Tree) (ts : Trees) → all_sizes s (all_instances a ts) ≡ all_sizes (λ x. size s (a x)) ts
  all_sizes_instances s a End = refl
  all_sizes_instances s a (More t ts) = omega (arith, size_instance s a t, all_sizes_instances s a ts)

mutual
  -- an instance is true exactly where the term is at the truth of what stands for the variables
  truth_instance : (v : ℕ → Bool) (a : ℕ → Tree) (t : Tree) → truth v (instance a t) ≡ truth (λ x. truth v (a x)) t
  truth_instance v a (Variable x) = refl
  truth_instance v a (Integer n) = refl
  truth_instance v a (Compound f ts) = all_truths_instances v a ts

  all_truths_instances : (v : ℕ → Bool) (a : ℕ → Tree) (ts : Trees) → all_truths v (all_instances a ts) ≡ all_truths (λ x. truth v (a x)) ts
  all_truths_instances v a End = refl
  all_truths_instances v a (More t ts) = rw (truth_instance v a t, all_truths_instances v a ts)

mutual
  rigid_true : (v : ℕ → Bool) (t : Tree) → is_rigid t ≡ true → truth v t ≡ true
  rigid_true v (Variable x) h = absurd (cc)
  rigid_true v (Integer n) h = refl
  rigid_true v (Compound f ts) h = all_rigid_true v ts h

  all_rigid_true : (v : ℕ → Bool) (ts : Trees) → all_truths (λ _. false) ts ≡ true → all_truths v ts ≡ true
  all_rigid_true v End h = refl
  all_rigid_true v (More t ts) h =
      let p = and_parts (is_rigid t) (all_truths (λ _. false) ts) h in
      let l = rigid_true v t p.0 in
      let r = all_rigid_true v ts p.1 in
      λ i. l i && r i

mutual
  rigid_sizes : (r s : ℕ → ℕ) (t : Tree) → is_rigid t ≡ true → size r t ≡ size s t
  rigid_sizes r s (Variable x) h = cc
  rigid_sizes r s (Integer n) h = refl
  rigid_sizes r s (Compound f End) h = refl
  rigid_sizes r s (Compound f (More t ts)) h =
      let p = and_parts (is_rigid t) (all_truths (λ _. false) ts) h in
      omega (arith, rigid_sizes r s t p.0, all_rigid_sizes r s ts p.1)

  all_rigid_sizes : (r s : ℕ → ℕ) (ts : Trees) → all_truths (λ _. false) ts ≡ true → all_sizes r ts ≡ all_sizes s ts
  all_rigid_sizes r s End h = refl
  all_rigid_sizes r s (More t ts) h =
      let p = and_parts (is_rigid t) (all_truths (λ _. false) ts) h in
      omega (arith, rigid_sizes r s t p.0, all_rigid_sizes r s ts p.1)

-- f k * s k and so on, for n variables from k on
abbrev pub summed : (ℕ → ℕ) → (ℕ → ℕ) → ℕ → ℕ → ℕ
summed f s k zero = 0
summed f s k (suc n) = f k * s k + summed f s (suc k) n

pub summed-zero : (s : ℕ → ℕ) (k n : ℕ) → summed (λ _. 0) s k n ≡ 0
summed-zero s k zero = refl
summed-zero s k (suc n) = omega (arith, summed-zero s (suc k) n)

summed-add : (f g s : ℕ → ℕ) (k n : ℕ) → summed (λ x. f x + g x) s k n ≡ summed f s k n + summed g s k n
summed-add f g s k zero = refl
summed-add f g s k (suc n) = omega (arith, summed-add f g s (suc k) n)

-- past the variable nothing is counted
summed-past : (s : ℕ → ℕ) (y k n : ℕ) → y < k → summed (λ x. if x == y then 1 else 0) s k n ≡ 0
summed-past s y k zero lt = refl
summed-past s y k (suc n) lt =
    let h = summed-past s y (suc k) n (omega (arith, lt)) in
    let e : (k == y) ≡ false = grind (arith, nat_tests) in
    rw e (omega (arith, h))

pub summed-one : (s : ℕ → ℕ) (y k n : ℕ) → k ≤ y → y < k + n → summed (λ x. if x == y then 1 else 0) s k n ≡ s y
summed-one s y k zero le lt = absurd (omega (arith, le, lt))
summed-one s y k (suc n) le lt = go (k == y) refl (summed-one s y (suc k) n) (summed-past s y (suc k) n)
  where
    go : (b : Bool) → (k == y) ≡ b → (suc k ≤ y → y < suc k + n → summed (λ x. if x == y then 1 else 0) s (suc k) n ≡ s y) → (y < suc k → summed (λ x. if x == y then 1 else 0) s (suc k) n ≡ 0) → (if b then 1 else 0) * s k + summed (λ x. if x == y then 1 else 0) s (suc k) n ≡ s y
    go true e f g =
        let same : k ≡ y = eqb-true k y e in
        let h = g (omega (arith, same)) in
        let v : s k ≡ s y = ap s same in
        omega (arith, h, v)
    go false e f g =
        let apart : k < y = grind (arith, nat_tests) in
        let h = f (omega (arith, apart)) (omega (arith, lt)) in
        omega (arith, h)

mutual
  -- a size is the names, and each variable once for each of its occurrences
  size_summed : (s : ℕ → ℕ) (n : ℕ) (t : Tree) → is_below n t ≡ true → size s t ≡ size (λ _. 0) t + summed (λ x. occurrences x t) s 0 n
  size_summed s n (Variable y) h = let lt : y < n = ltb-true y n h in omega (arith, summed-one s y 0 n (omega arith) (omega (arith, lt)))
  size_summed s n (Integer m) h = omega (arith, summed-zero s 0 n)
  size_summed s n (Compound f End) h = omega (arith, summed-zero s 0 n)
  size_summed s n (Compound f (More t ts)) h =
      let p = and_parts (is_below n t) (all_truths (λ x. nat_lt x n) ts) h in
      omega (arith, size_summed s n t p.0, all_sizes_summed s n ts p.1, summed-add (λ x. occurrences x t) (λ x. all_occurrences x ts) s 0 n)

  all_sizes_summed : (s : ℕ → ℕ) (n : ℕ) (ts : Trees) → all_truths (λ x. nat_lt x n) ts ≡ true → all_sizes s ts ≡ all_sizes (λ _. 0) ts + summed (λ x. all_occurrences x ts) s 0 n
  all_sizes_summed s n End h = omega (arith, summed-zero s 0 n)
  all_sizes_summed s n (More t ts) h =
      let p = and_parts (is_below n t) (all_truths (λ x. nat_lt x n) ts) h in
      omega (arith, size_summed s n t p.0, all_sizes_summed s n ts p.1, summed-add (λ x. occurrences x t) (λ x. all_occurrences x ts) s 0 n)

weighted_occurrences : (s : ℕ → ℕ) (k n : ℕ) (t : Tree) → weighted s k (occurrences_from k n t) ≡ pos (summed (λ x. occurrences x t) s k n)
weighted_occurrences s k zero t = refl
weighted_occurrences s k (suc n) t = omega (arith, ints, weighted_occurrences s (suc k) n t)

row_value : (n : ℕ) (s : ℕ → ℕ) (t : Tree) → is_below n t ≡ true → value_of (size_row n t) s ≡ pos (size s t)
row_value n s t h =
    let w = weighted_occurrences s 0 n t in
    let e = size_summed s n t h in
    rw (w, e) refl

length-occurrences : (k n : ℕ) (t : Tree) → length (occurrences_from k n t) ≡ n
length-occurrences k zero t = refl
length-occurrences k (suc n) t = ap suc (length-occurrences (suc k) n t)

pub term_size_is_a_norm : IsNorm size truth size_row
term_size_is_a_norm = record {
  size_of_instance = size_instance;
  truth_of_instance = truth_instance;
  rigid_truth = rigid_true;
  rigid_size = rigid_sizes;
  closed_truth = λ t h. h;
  integer_size = λ s n. refl;
  width = λ n t. ap suc (length-occurrences 0 n t);
  value = row_value;
}
