-- Elements of lists by their places, in the two ways that loops and definitions speak of them.
use Rattle.std.proofs.Common.{◌≡◌, inl, inr, ℕ, zero, suc, ◌+◌, ◌<◌, List, [], ◌∷◌, length, slice_get, slice_index_or, slice_set, Some, refl, ap, sym, subst, ◌∙◌, arith}
use Rattle.std.proofs.lemmas.Bool.{cases_eq}
use Rattle.termination_model.proofs.Lists.{there}

-- an element by its index
pub from_index : {X : Type 0} → (xs : List X) (i : ℕ) (d x : X) → i < length xs → slice_index_or xs i d ≡ x → slice_get xs i ≡ Some x
from_index xs i d x lt e = there xs i d lt ∙ ap Some e

-- what holds up to a place, and one place further
pub up_to_more : {X : Type 0} → (P : ℕ → X → Type 0) (xs : List X) (n : ℕ) (x : X) → slice_get xs n ≡ Some x
    → ((j : ℕ) (y : X) → j < n → slice_get xs j ≡ Some y → P j y) → P n x → (j : ℕ) (y : X) → j < n + 1 → slice_get xs j ≡ Some y → P j y
up_to_more P xs n x at all one j y lt e = elim (cases_eq j n) [
  | inl same ↦
      let f : slice_get xs n ≡ Some y = ap (slice_get xs) (sym same) ∙ e in
      let is : x ≡ y = cc in
      subst (λ k. P k y) (sym same) (subst (P n) is one)
  | inr other ↦ all j y (omega arith) e
]

-- the element that was put at a place, and the others
pub set_there : {X : Type 0} → (xs : List X) (i : ℕ) (x : X) → i < length xs → slice_get (slice_set xs i x) i ≡ Some x
set_there [] i x lt = absurd (omega arith)
set_there (y ∷ ys) zero x lt = refl
set_there (y ∷ ys) (suc i) x lt = set_there ys i x (omega arith)

pub set_elsewhere : {X : Type 0} → (xs : List X) (i j : ℕ) (x : X) → ((j ≡ i) → ⊥) → slice_get (slice_set xs i x) j ≡ slice_get xs j
set_elsewhere [] i j x ne = refl
set_elsewhere (y ∷ ys) zero zero x ne = absurd (ne refl)
set_elsewhere (y ∷ ys) zero (suc j) x ne = refl
set_elsewhere (y ∷ ys) (suc i) zero x ne = refl
set_elsewhere (y ∷ ys) (suc i) (suc j) x ne = set_elsewhere ys i j x (λ e. ne (ap suc e))
