-- Columns of arguments, one argument after the other.
use Rattle.std.proofs.Common.{◌≡◌, ◌∙◌, ℕ, zero, suc, ◌+◌, ◌<◌, ◌≤◌, ℤ, List, [], ◌∷◌, ◌++◌, map, take, length, slice_get, get_or, sum, Option, None, Some, refl, ap, sym, subst, arith}
use Rattle.std.proofs.lemmas.List.{length-map, length-append}
use Rattle.std.proofs.lemmas.List.Sums.{sum_by-cons}
use Rattle.std.specs.List.{AllByRecursion}
use Rattle.cti_terms.specs.Tree.{Tree}
use Rattle.termination_model.specs.columns.Columns.{columns_of, counted}
use Rattle.number_columns.specs.ColumnLists.{HasLength, HaveLength}

pub append_none : {X : Type 0} → (xs : List X) → xs ++ [] ≡ xs
append_none [] = refl
append_none (x ∷ xs) = ap (λ s. x ∷ s) (append_none xs)

pub append_assoc : {X : Type 0} → (xs ys zs : List X) → (xs ++ ys) ++ zs ≡ xs ++ (ys ++ zs)
append_assoc [] ys zs = refl
append_assoc (x ∷ xs) ys zs = ap (λ s. x ∷ s) (append_assoc xs ys zs)

pub take_all : {X : Type 0} → (xs : List X) (n : ℕ) → length xs ≤ n → take n xs ≡ xs
take_all [] zero h = refl
take_all [] (suc n) h = refl
take_all (x ∷ xs) zero h = absurd (omega arith)
take_all (x ∷ xs) (suc n) h = ap (λ s. x ∷ s) (take_all xs n (omega arith))

-- one argument more
columns_next : {X : Type 0} → (ks : List ℕ) (us : List (ℕ → X)) (i k : ℕ) (u : ℕ → X) → slice_get ks i ≡ Some k → slice_get us i ≡ Some u
    → columns_of (take (suc i) ks) (take (suc i) us) ≡ columns_of (take i ks) (take i us) ++ counted 0 k u
columns_next [] us i k u e f = cc
columns_next (x ∷ ks) [] i k u e f = cc
columns_next (x ∷ ks) (y ∷ us) zero k u e f =
    let count : x ≡ k = cc in
    let same : y ≡ u = cc in
    append_none (counted 0 x y) ∙ (λ i. counted 0 (count i) (same i))
columns_next (x ∷ ks) (y ∷ us) (suc i) k u e f =
    ap (λ s. counted 0 x y ++ s) (columns_next ks us i k u e f) ∙ sym (append_assoc (counted 0 x y) (columns_of (take i ks) (take i us)) (counted 0 k u))

pub columns_more : {X : Type 0} → (ks : List ℕ) (us : List (ℕ → X)) (i k : ℕ) (u : ℕ → X) → slice_get ks i ≡ Some k → slice_get us i ≡ Some u
    → columns_of (take i ks) (take i us) ++ counted 0 k u ≡ columns_of (take (i + 1) ks) (take (i + 1) us)
columns_more ks us i k u e f =
    let next : suc i ≡ i + 1 = omega arith in
    sym (columns_next ks us i k u e f) ∙ ap (λ n. columns_of (take n ks) (take n us)) next

length_counted : {X : Type 0} → (i k : ℕ) (u : ℕ → X) → length (counted i k u) ≡ k
length_counted i zero u = refl
length_counted i (suc k) u = ap suc (length_counted (suc i) k u)

-- how many columns there are
pub length_columns : {X : Type 0} → (ks : List ℕ) (us : List (ℕ → X)) → length ks ≡ length us → length (columns_of ks us) ≡ sum ks
length_columns [] us h = refl
length_columns (k ∷ ks) [] h = absurd (omega arith)
length_columns {X} (k ∷ ks) (u ∷ us) h =
    length-append (counted 0 k u) (columns_of ks us)
    ∙ (λ i. length_counted 0 k u i + length_columns ks us (omega arith) i)
    ∙ sym (sum_by-cons (λ x. x) k ks)

-- ---- lengths

module _ (n : ℕ) (expression : Tree → ℕ → Option (List ℤ)) (long : (t : Tree) (j : ℕ) (e : List ℤ) → expression t j ≡ Some e → length e ≡ suc n) where
  has_length : (t : Tree) (j : ℕ) → HasLength n (expression t j)
  has_length t j = go (expression t j) refl
    where
      go : (e : Option (List ℤ)) → expression t j ≡ e → HasLength n e
      go None q = tt
      go (Some e) q = long t j e q

  have_append : (es fs : List (Option (List ℤ))) → HaveLength n es → HaveLength n fs → HaveLength n (es ++ fs)
  have_append [] fs h k = k
  have_append (e ∷ es) fs h k = (h.0, have_append es fs h.1 k)

  counted_length : (t : Tree) (i k : ℕ) → HaveLength n (counted i k (expression t))
  counted_length t i zero = tt
  counted_length t i (suc k) = (has_length t i, counted_length t (suc i) k)

  pub columns_length : (ks : List ℕ) (ts : List Tree) → HaveLength n (columns_of ks (map expression ts))
  columns_length [] ts = tt
  columns_length (k ∷ ks) [] = tt
  columns_length (k ∷ ks) (t ∷ ts) = have_append (counted 0 k (expression t)) (columns_of ks (map expression ts)) (counted_length t 0 k) (columns_length ks ts)

-- ---- places

pub place_or : {X : Type 0} → (xs : List X) (i : ℕ) (d : X) → i < length xs → slice_get xs i ≡ Some (get_or xs i d)
place_or [] i d lt = absurd (omega arith)
place_or (y ∷ ys) zero d lt = refl
place_or (y ∷ ys) (suc i) d lt = place_or ys i d (omega arith)
