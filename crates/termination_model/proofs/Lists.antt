-- Elements of lists by their places, in the two ways that loops and definitions speak of them.
use Rattle.std.proofs.Common.{◌≡◌, ℕ, zero, suc, ◌+◌, ◌<◌, ◌≤◌, List, [], ◌∷◌, ◌++◌, length, map, take, slice_get, slice_index_or, get_or, Some, refl, ap, sym, subst, ◌∙◌, arith, sum_by}
use Rattle.std.specs.List.{AllByRecursion, fold}

-- the element that a loop is at
pub at_place : {X : Type 0} → (xs : List X) (i : ℕ) (x : X) → i < length xs → x ≡ get_or xs i x → slice_get xs i ≡ Some x
at_place [] i x lt e = absurd (omega arith)
at_place (y ∷ ys) zero x lt e = ap Some (sym e)
at_place (y ∷ ys) (suc i) x lt e = at_place ys i x (omega arith) e

pub one_element : {X : Type 0} → (xs : List X) (i : ℕ) (x y : X) → slice_get xs i ≡ Some x → slice_get xs i ≡ Some y → x ≡ y
one_element xs i x y p q = cc

pub place_below : {X : Type 0} → (xs : List X) (i : ℕ) (x : X) → slice_get xs i ≡ Some x → i < length xs
place_below [] i x e = cc
place_below (y ∷ ys) zero x e = omega arith
place_below (y ∷ ys) (suc i) x e = omega (arith, place_below ys i x e)

pub mapped_place : {X Y : Type 0} → (f : X → Y) (xs : List X) (i : ℕ) (x : X) → slice_get xs i ≡ Some x → slice_get (map f xs) i ≡ Some (f x)
mapped_place f [] i x e = cc
mapped_place f (y ∷ ys) zero x e = cc
mapped_place f (y ∷ ys) (suc i) x e = mapped_place f ys i x e

-- a fact of each element, by places
pub by_places : {X : Type 0} → (P : X → Type 0) (xs : List X) → AllByRecursion P xs → (i : ℕ) (x : X) → slice_get xs i ≡ Some x → P x
by_places P [] all i x e = cc
by_places P (y ∷ ys) all zero x e = let same : y ≡ x = cc in subst P same all.0
by_places P (y ∷ ys) all (suc i) x e = by_places P ys all.1 i x e

pub from_places : {X : Type 0} → (P : X → Type 0) (xs : List X) → ((i : ℕ) (x : X) → slice_get xs i ≡ Some x → P x) → AllByRecursion P xs
from_places P [] h = tt
from_places P (y ∷ ys) h = (h 0 y refl, from_places P ys (λ i x e. h (suc i) x e))

-- an element's number is part of the sum
pub folded-le : {X : Type 0} → (f : X → ℕ) (xs : List X) (n : ℕ) → n ≤ fold (λ a x. a + f x) n xs
folded-le f [] n = omega arith
folded-le f (x ∷ xs) n = omega (arith, folded-le f xs (n + f x))

pub folded_part : {X : Type 0} → (f : X → ℕ) (xs : List X) (i : ℕ) (x : X) (n : ℕ) → slice_get xs i ≡ Some x → f x ≤ fold (λ a x. a + f x) n xs
folded_part f [] i x n e = cc
folded_part f (y ∷ ys) zero x n e = let same : y ≡ x = cc in let v = ap f same in omega (arith, folded-le f ys (n + f y), v)
folded_part f (y ∷ ys) (suc i) x n e = folded_part f ys i x (n + f y) e

pub sum_part : {X : Type 0} → (f : X → ℕ) (xs : List X) (i : ℕ) (x : X) → slice_get xs i ≡ Some x → f x ≤ sum_by f xs
sum_part f xs i x e = folded_part f xs i x 0 e

-- an element by its place, or another one past the end
pub indexed : {X : Type 0} → (xs : List X) (i : ℕ) (x d : X) → slice_get xs i ≡ Some x → slice_index_or xs i d ≡ x
indexed [] i x d e = cc
indexed (y ∷ ys) zero x d e = cc
indexed (y ∷ ys) (suc i) x d e = indexed ys i x d e

pub there : {X : Type 0} → (xs : List X) (i : ℕ) (d : X) → i < length xs → slice_get xs i ≡ Some (slice_index_or xs i d)
there [] i d lt = absurd (omega arith)
there (y ∷ ys) zero d lt = refl
there (y ∷ ys) (suc i) d lt = there ys i d (omega arith)

-- one more element taken
pub taken_more : {X : Type 0} → (xs : List X) (i : ℕ) (x : X) → slice_get xs i ≡ Some x → take (i + 1) xs ≡ take i xs ++ x ∷ []
taken_more [] i x e = cc
taken_more (y ∷ ys) zero x e = let same : y ≡ x = cc in λ i. same i ∷ []
taken_more (y ∷ ys) (suc i) x e = let rest = taken_more ys i x e in let more : suc i + 1 ≡ suc (i + 1) = omega arith in rw more (ap (λ s. y ∷ s) rest)

pub map_push : {X Y : Type 0} → (f : X → Y) (xs : List X) (x : X) → map f (xs ++ x ∷ []) ≡ map f xs ++ f x ∷ []
map_push f [] x = refl
map_push f (y ∷ ys) x = ap (λ s. f y ∷ s) (map_push f ys x)

pub append_assoc : {X : Type 0} → (xs ys zs : List X) → (xs ++ ys) ++ zs ≡ xs ++ (ys ++ zs)
append_assoc [] ys zs = refl
append_assoc (x ∷ xs) ys zs = ap (λ s. x ∷ s) (append_assoc xs ys zs)

-- one more element mapped, after other ones
pub mapped_more : {X Y : Type 0} → (f : X → Y) (before : List Y) (xs : List X) (i : ℕ) (x : X) → slice_get xs i ≡ Some x
    → (before ++ map f (take i xs)) ++ f x ∷ [] ≡ before ++ map f (take (i + 1) xs)
mapped_more f before xs i x e = append_assoc before (map f (take i xs)) (f x ∷ []) ∙ ap (λ s. before ++ s) (sym (map_push f (take i xs) x) ∙ ap (map f) (sym (taken_more xs i x e)))

-- within a list the other element plays no part
pub any_default : {X : Type 0} → (xs : List X) (i : ℕ) (d e : X) → i < length xs → slice_index_or xs i d ≡ slice_index_or xs i e
any_default [] i d e lt = absurd (omega arith)
any_default (x ∷ xs) zero d e lt = refl
any_default (x ∷ xs) (suc i) d e lt = any_default xs i d e (omega arith)
