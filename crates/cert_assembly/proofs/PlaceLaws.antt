-- What is known of items by their places.
use Rattle.std.proofs.Common.{◌≡◌, ℕ, zero, suc, ◌+◌, ◌<◌, List, [], ◌∷◌, ◌++◌, length, Option, Some, slice_get, ◌⊎◌, inl, inr, refl, subst, ap, sym, ◌∙◌, arith}
use Rattle.std.specs.Prelude.{IsSomeAnd}
use Rattle.cti_terms.specs.declared.predicates.Pred.{Pred}
use Rattle.termination_model.specs.grounds.Grounds.{HasArity}

last_or : (i n : ℕ) → i < n + 1 → (i < n) ⊎ (i ≡ n)
last_or i n less = grind arith

pub places_more : {X : Type 0} (P : X → Type 0) (xs : List X) (n : ℕ) (y : X) → slice_get xs n ≡ Some y → P y → ((i : ℕ) (x : X) → i < n → slice_get xs i ≡ Some x → P x)
    → (i : ℕ) (x : X) → i < n + 1 → slice_get xs i ≡ Some x → P x
places_more {X = X} P xs n y at here before i x less e = elim (last_or i n less) [
  | inl lower ↦ before i x lower e
  | inr last ↦ subst P (same (ap (λ k. slice_get xs k) (sym last) ∙ e)) here
]
  where
    same : slice_get xs n ≡ Some x → y ≡ x
    same f = cc

pub arity_has : (preds : List Pred) (q : ℕ) (d : Pred) → slice_get preds q ≡ Some d → HasArity preds q d.arity
arity_has preds q d e = subst (λ (o : Option Pred). IsSomeAnd o (λ x. x.arity ≡ d.arity)) (sym e) refl

pub none_listed : {X : Type 0} (xs : List X) → xs ≡ [] → (i : ℕ) (x : X) → slice_get xs i ≡ Some x → ⊥
none_listed {X = X} xs e i x h = empty i (ap (λ (ys : List X). slice_get ys i) (sym e) ∙ h)
  where
    empty : (i : ℕ) → slice_get {X = X} [] i ≡ Some x → ⊥
    empty i g = cc

-- an item of a list with one more item
pub pushed : {X : Type 0} (xs : List X) (y : X) (i : ℕ) (x : X) → slice_get (xs ++ y ∷ []) i ≡ Some x → (slice_get xs i ≡ Some x) ⊎ ((i ≡ length xs) × (y ≡ x))
pushed [] y zero x e = inr (refl, (let same : y ≡ x = cc in same))
pushed [] y (suc i) x e = cc
pushed (z ∷ xs) y zero x e = inl e
pushed (z ∷ xs) y (suc i) x e = elim (pushed xs y i x e) [
  | inl h ↦ inl h
  | inr (a, b) ↦ inr (ap suc a, b)
]
