-- What is so at each place of a list, as a loop finds it.
use Rattle.std.proofs.Common.{◌≡◌, ℕ, suc, ◌+◌, ◌<◌, ◌≤◌, List, [], ◌∷◌, inl, inr, length, slice_get, Some, refl, subst, arith, below_more}
use Rattle.termination_model.specs.claims.Claims.{SomeOf}
use Rattle.termination_model.proofs.Lists.{one_element, place_below}

abbrev pub UpTo : {X : Type 0} → (ℕ → X → Type 0) → List X → ℕ → Type 0
UpTo P xs n = (k : ℕ) → k < n → (x : _) → slice_get xs k ≡ Some x → P k x

pub up_next : {X : Type 0} (P : ℕ → X → Type 0) (xs : List X) (i : ℕ) (x : X) → UpTo P xs i → slice_get xs i ≡ Some x → P i x → UpTo P xs (i + 1)
up_next P xs i x h at p = below_more (λ k. (y : _) → slice_get xs k ≡ Some y → P k y) i h (λ y ey. subst (P i) (one_element xs i x y at ey) p)

pub up_all : {X : Type 0} (P : ℕ → X → Type 0) (xs : List X) (i : ℕ) → UpTo P xs i → length xs ≤ i → (k : ℕ) (x : X) → slice_get xs k ≡ Some x → P k x
up_all P xs i h le k x e = h k (omega (arith, le, place_below xs k x e)) x e

-- an element somewhere
pub some_place : {X : Type 0} (P : X → Type 0) (xs : List X) → SomeOf P xs → (i : ℕ) × (x : X) × (slice_get xs i ≡ Some x) × P x
some_place P [] h = absurd h
some_place P (x ∷ xs) (inl p) = (0, x, refl, p)
some_place P (x ∷ xs) (inr h) = let rest = some_place P xs h in (suc rest.0, rest.1, rest.2, rest.3)
