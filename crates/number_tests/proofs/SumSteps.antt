-- Sums for each predicate, as a loop over loads forms them.
use Rattle.std.proofs.Common.{◌≡◌, ℕ, zero, suc, ◌+◌, ◌<◌, ◌≤◌, ◌==◌, ℤ, Bool, true, false, if◌then◌else◌, List, [], ◌∷◌, ◌⊎◌, inl, inr, length, take, slice_get, Some, refl, sym, ap, subst, ◌∙◌, arith, below_more, eqb-true, eq-eqb}
use Rattle.std.specs.BTreeMap.{BTreeMap}
use Rattle.linear_rows.specs.Plain.{HaveWidth, plain_rows}
use Rattle.linear_rows.specs.declared.row.Row.{Row}
use Rattle.std.specs.List.{AllByRecursion}
use Rattle.termination_model.specs.claims.Claims.{SomeOf}
use Rattle.termination_model.specs.mappings.Refutation.{Load, gather}
use Rattle.termination_model.specs.sizes.Rows.{added}
use Rattle.termination_model.specs.sizes.Systems.{row_fits}
use Rattle.termination_model.proofs.Lists.{taken_more}
use Rattle.number_tests.specs.Refuting.{SumsFit}
use Rattle.number_tests.specs.Sums.{AddsTo, sum_at}
use Rattle.number_tests.proofs.SumLists.{gather_push}

pub some_at : {X : Type 0} → (P : X → Type 0) (xs : List X) (i : ℕ) (x : X) → slice_get xs i ≡ Some x → P x → SomeOf P xs
some_at P [] i x e h = cc
some_at P (y ∷ xs) zero x e h = let same : y ≡ x = cc in inl (subst P (sym same) h)
some_at P (y ∷ xs) (suc i) x e h = inr (some_at P xs i x e h)

pub none_of : {X : Type 0} → (P : X → Type 0) (xs : List X) → ((i : ℕ) (x : X) → slice_get xs i ≡ Some x → P x → ⊥) → SomeOf P xs → ⊥
none_of P [] h some = some
none_of P (y ∷ xs) h (inl p) = h 0 y refl p
none_of P (y ∷ xs) h (inr some) = none_of P xs (λ i x e. h (suc i) x e) some

pub have_width : (n : ℕ) (rows : List Row) → AllByRecursion (λ (r : List ℤ). length r ≡ suc n) (plain_rows rows) → HaveWidth n rows
have_width n [] h k d lt = absurd (omega arith)
have_width n (r ∷ rs) h zero d lt = let e = h.0 in omega (arith, e)
have_width n (r ∷ rs) h (suc k) d lt = have_width n rs h.1 k d (omega arith)

within_or_past : (k n : ℕ) → (k < n) ⊎ (n ≤ k)
within_or_past zero zero = inr (omega arith)
within_or_past zero (suc n) = inl (omega arith)
within_or_past (suc k) zero = inr (omega arith)
within_or_past (suc k) (suc n) = elim (within_or_past k n) [
  | inl less ↦ inl (omega (arith, less))
  | inr more ↦ inr (omega (arith, more))
]

take_past : {X : Type 0} → (xs : List X) (k : ℕ) → length xs ≤ k → take k xs ≡ xs
take_past [] zero le = refl
take_past [] (suc k) le = refl
take_past (x ∷ xs) zero le = absurd (omega arith)
take_past (x ∷ xs) (suc k) le = ap (λ s. x ∷ s) (take_past xs k (omega arith))

-- sums that fit up to the last load always fit
pub all_fit : (hs : List Load) (n : ℕ) → n ≡ length hs → ((k : ℕ) → k < n + 1 → (q : ℕ) → row_fits (gather q (take k hs)) ≡ true) → SumsFit hs
all_fit hs n e h k q = elim (within_or_past k (n + 1)) [
  | inl less ↦ h k less q
  | inr more ↦ ap (λ s. row_fits (gather q s)) (take_past hs k (omega (arith, more, e)) ∙ sym (take_past hs n (omega (arith, e)))) ∙ h n (omega arith) q
]

module _ (hs : List Load) (n : ℕ) (h : Load) (at : slice_get hs n ≡ Some h) (old new : BTreeMap ℕ (List ℤ)) (same : (q : ℕ) → sum_at old q ≡ gather q (take n hs)) where
  gather_more : (q : ℕ) → gather q (take (n + 1) hs) ≡ (if h.0 == q then added (gather q (take n hs)) h.1 else gather q (take n hs))
  gather_more q = ap (gather q) (taken_more hs n h at) ∙ gather_push q (take n hs) h

  pub sums_more : AddsTo old new h.0 h.1 true → (q : ℕ) → sum_at new q ≡ gather q (take (n + 1) hs)
  sums_more adds q = adds.1 q ∙ (λ i. if h.0 == q then added (same q i) h.1 else same q i) ∙ sym (gather_more q)

  pub fits_more : AddsTo old new h.0 h.1 true → ((k : ℕ) → k < n + 1 → (q : ℕ) → row_fits (gather q (take k hs)) ≡ true)
      → (k : ℕ) → k < n + 1 + 1 → (q : ℕ) → row_fits (gather q (take k hs)) ≡ true
  fits_more adds before = below_more (λ (k : ℕ). (q : ℕ) → row_fits (gather q (take k hs)) ≡ true) (n + 1) before (λ q. ap row_fits (gather_more q) ∙ go q (h.0 == q) refl)
    where
      go : (q : ℕ) (b : Bool) → (h.0 == q) ≡ b → row_fits (if b then added (gather q (take n hs)) h.1 else gather q (take n hs)) ≡ true
      go q true e = subst (λ (x : ℕ). row_fits (added (gather x (take n hs)) h.1) ≡ true) (eqb-true h.0 q e) (ap (λ s. row_fits (added s h.1)) (sym (same h.0)) ∙ adds.0)
      go q false e = before n (omega arith) q

  pub does_not_fit : SumsFit hs → row_fits (added (sum_at old h.0) h.1) ≡ false → ⊥
  does_not_fit fit wide =
      let own : (h.0 == h.0) ≡ true = eq-eqb h.0 h.0 refl in
      let more : gather h.0 (take (n + 1) hs) ≡ added (gather h.0 (take n hs)) h.1 = gather_more h.0 ∙ (λ i. if own i then added (gather h.0 (take n hs)) h.1 else gather h.0 (take n hs)) in
      let yes : row_fits (added (gather h.0 (take n hs)) h.1) ≡ true = ap row_fits (sym more) ∙ fit (n + 1) h.0 in
      let no_fit : row_fits (added (gather h.0 (take n hs)) h.1) ≡ false = ap (λ s. row_fits (added s h.1)) (sym (same h.0)) ∙ wide in
      let both : true ≡ false = sym yes ∙ no_fit in
      cc
