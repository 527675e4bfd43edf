-- Lemmas on lists from which an element is taken, and into which one is put.
use Rattle.std.proofs.Common.{◌≡◌, ℕ, zero, suc, List, [], ◌∷◌, ◌++◌, length, map, get_or, slice_get, Some, refl, ap, arith}
use Rattle.std.specs.List.{AllByRecursion, insert, remove}

module _ {X : Type 0} where
  -- what holds of each element holds of those that are left
  pub all_remove : (P : X → Type 0) (xs : List X) (i : ℕ) → AllByRecursion P xs → AllByRecursion P (remove xs i)
  all_remove P [] zero h = tt
  all_remove P [] (suc i) h = tt
  all_remove P (y ∷ xs) zero h = h.1
  all_remove P (y ∷ xs) (suc i) h = (h.0, all_remove P xs i h.1)

  -- the element of a place in the first of two lists
  pub get_front : (xs ys : List X) (i : ℕ) (x : X) → slice_get xs i ≡ Some x → slice_get (xs ++ ys) i ≡ Some x
  get_front [] ys i x e = absurd (let d = e in cc)
  get_front (y ∷ xs) ys zero x e = e
  get_front (y ∷ xs) ys (suc i) x e = get_front xs ys i x e

-- the same of lists whose elements are mapped
module _ {X Y : Type 0} (f : X → Y) where
  pub map_insert : (xs : List X) (i : ℕ) (x : X) → map f (insert xs i x) ≡ insert (map f xs) i (f x)
  map_insert xs zero x = refl
  map_insert [] (suc i) x = refl
  map_insert (y ∷ xs) (suc i) x = ap (λ (ys : List Y). f y ∷ ys) (map_insert xs i x)

  pub map_remove : (xs : List X) (i : ℕ) → map f (remove xs i) ≡ remove (map f xs) i
  map_remove [] zero = refl
  map_remove [] (suc i) = refl
  map_remove (y ∷ xs) zero = refl
  map_remove (y ∷ xs) (suc i) = ap (λ (ys : List Y). f y ∷ ys) (map_remove xs i)

  pub map_length : (xs : List X) → length (map f xs) ≡ length xs
  map_length [] = refl
  map_length (x ∷ xs) = omega (arith, map_length xs)

  pub map_get : (xs : List X) (i : ℕ) (d : X) → get_or (map f xs) i (f d) ≡ f (get_or xs i d)
  map_get [] i d = refl
  map_get (x ∷ xs) zero d = refl
  map_get (x ∷ xs) (suc i) d = map_get xs i d
