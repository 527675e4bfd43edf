-- What holds of each fact of a list of items, by the item's place.
use Rattle.std.proofs.Common.{◌≡◌, ℕ, zero, suc, ◌+◌, List, [], ◌∷◌, ◌++◌, slice_get, Some, refl, subst, arith}
use Rattle.std.specs.List.{AllByRecursion}
use Rattle.call_components.proofs.Lists.{all_append}
use Rattle.certificate.specs.declared.fact.Fact.{Fact}
use Rattle.cert_structure.specs.Numbered.{facts_from, lines_from}

module _ (P : Fact → Type 0) where
  -- of each of two lists
  pub left_of : (xs ys : List Fact) → AllByRecursion P (xs ++ ys) → AllByRecursion P xs
  left_of [] ys all = tt
  left_of (x ∷ xs) ys all = (all.0, left_of xs ys all.1)

  pub right_of : (xs ys : List Fact) → AllByRecursion P (xs ++ ys) → AllByRecursion P ys
  right_of [] ys all = all
  right_of (x ∷ xs) ys all = right_of xs ys all.1

  module _ {A : Type 0} (facts : ℕ → A → List Fact) where
    items_from : (i : ℕ) (xs : List A) → ((k n : ℕ) (x : A) → n ≡ i + k → slice_get xs k ≡ Some x → AllByRecursion P (facts n x)) → AllByRecursion P (facts_from i facts xs)
    items_from i [] each = tt
    items_from i (x ∷ xs) each =
        all_append P (facts i x) (facts_from (suc i) facts xs) (each 0 i x (omega arith) refl)
        (items_from (suc i) xs (λ k n y at e. each (suc k) n y (omega (arith, at)) e))

    item_from : (i : ℕ) (xs : List A) → AllByRecursion P (facts_from i facts xs) → (k n : ℕ) (x : A) → n ≡ i + k → slice_get xs k ≡ Some x → AllByRecursion P (facts n x)
    item_from i [] all k n x at e = cc
    item_from i (y ∷ xs) all zero n x at e =
        let same : y ≡ x = cc in
        let here : i ≡ n = omega (arith, at) in
        subst (λ (m : ℕ). AllByRecursion P (facts m x)) here (subst (λ (z : A). AllByRecursion P (facts i z)) same (left_of (facts i y) (facts_from (suc i) facts xs) all))
    item_from i (y ∷ xs) all (suc k) n x at e = item_from (suc i) xs (right_of (facts i y) (facts_from (suc i) facts xs) all) k n x (omega (arith, at)) e

    -- of the facts of each item
    pub of_items : (xs : List A) → ((k : ℕ) (x : A) → slice_get xs k ≡ Some x → AllByRecursion P (facts k x)) → AllByRecursion P (facts_from 0 facts xs)
    of_items xs each = items_from 0 xs (λ k n x at e. let same : k ≡ n = omega (arith, at) in subst (λ (m : ℕ). AllByRecursion P (facts m x)) same (each k x e))

    pub of_item : (xs : List A) → AllByRecursion P (facts_from 0 facts xs) → (k : ℕ) (x : A) → slice_get xs k ≡ Some x → AllByRecursion P (facts k x)
    of_item xs all k x e = item_from 0 xs all k k x (omega arith) e

  module _ {A : Type 0} (line : ℕ → A → Fact) where
    -- of items with one fact each
    pub of_lines : (xs : List A) → ((k : ℕ) (x : A) → slice_get xs k ≡ Some x → P (line k x)) → AllByRecursion P (lines_from 0 line xs)
    of_lines xs each = of_items (λ k x. line k x ∷ []) xs (λ k x e. (each k x e, tt))

    pub of_line : (xs : List A) → AllByRecursion P (lines_from 0 line xs) → (k : ℕ) (x : A) → slice_get xs k ≡ Some x → P (line k x)
    of_line xs all k x e = (of_item (λ k x. line k x ∷ []) xs all k x e).0
