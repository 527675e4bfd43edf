-- Lists in which a test finds one element: its place, and the list that gains it once.
use Rattle.std.proofs.Common.{◌≡◌, ℕ, zero, suc, ◌+◌, ◌<◌, Bool, true, false, not, cond, nat_lt, ◌||◌, List, [], ◌∷◌, ◌++◌, length, slice_get, slice_index_or, Some, None, position, if◌then◌else◌, refl, ap, ◌∙◌, subst, arith}
use Rattle.std.proofs.lemmas.Bool.Decides.{nat_tests}
use Rattle.std.specs.List.{list_any, position_or_len}

-- an element stays at its place when more come after it
pub slice_get-append : {X : Type 0} (xs ys : List X) (i : ℕ) → i < length xs → slice_get (xs ++ ys) i ≡ slice_get xs i
slice_get-append [] ys i h = absurd (omega (arith, h))
slice_get-append (x ∷ xs) ys zero h = refl
slice_get-append (x ∷ xs) ys (suc i) h = slice_get-append xs ys i (omega (arith, h))

module _ {X : Type 0} (p : X → Bool) where
  -- some element passes exactly where the first place that does is within the list
  any_at : (xs : List X) → list_any p xs ≡ nat_lt (position_or_len p xs) (length xs)
  any_at [] = refl
  any_at (x ∷ xs) = go (p x) (any_at xs)
    where
      go : (b : Bool) → list_any p xs ≡ nat_lt (position_or_len p xs) (length xs) → (b || list_any p xs) ≡ nat_lt (cond (not b) (1 + position_or_len p xs) 0) (suc (length xs))
      go true e = grind (arith, nat_tests)
      go false e = grind (arith, nat_tests)

  -- what a search finds is the first place that passes
  pub position-found : (xs : List X) (i : ℕ) → Some i ≡ position p xs → (i ≡ position_or_len p xs) × (list_any p xs ≡ true)
  position-found xs i h = let r = go (nat_lt (position_or_len p xs) (length xs)) h in (r.0, any_at xs ∙ r.1)
    where
      go : (b : Bool) → Some i ≡ cond b (Some (position_or_len p xs)) None → (i ≡ position_or_len p xs) × (b ≡ true)
      go true e = (cc, refl)
      go false e = cc

  -- where it finds nothing, nothing passes
  pub position-missing : (xs : List X) → None ≡ position p xs → list_any p xs ≡ false
  position-missing xs h = any_at xs ∙ go (nat_lt (position_or_len p xs) (length xs)) h
    where
      go : (b : Bool) → None ≡ cond b (Some (position_or_len p xs)) None → b ≡ false
      go true e = cc
      go false e = refl

  -- an element that passes is some element that does
  pub list_any-there : (xs : List X) (k : ℕ) (x : X) → k < length xs → slice_index_or xs k x ≡ x → p x ≡ true → list_any p xs ≡ true
  list_any-there [] k x l e h = absurd (omega (arith, l))
  list_any-there (y ∷ ys) zero x l e h = ap (λ b. b || list_any p ys) (ap p e ∙ h)
  list_any-there (y ∷ ys) (suc k) x l e h = go (p y) (list_any-there ys k x (omega (arith, l)) e h)
    where
      go : (b : Bool) → list_any p ys ≡ true → (b || list_any p ys) ≡ true
      go true a = refl
      go false a = a

module _ {X : Type 0} (p : X → Bool) (x : X) (only : (y : X) → p y ≡ true → y ≡ x) where
  -- where the test finds an element, it is at its place
  pub at_own_place : (xs : List X) → list_any p xs ≡ true → slice_get xs (position_or_len p xs) ≡ Some x
  at_own_place [] h = cc
  at_own_place (y ∷ ys) h = go (p y) refl h (at_own_place ys)
    where
      go : (b : Bool) → p y ≡ b → (b || list_any p ys) ≡ true → (list_any p ys ≡ true → slice_get ys (position_or_len p ys) ≡ Some x) → slice_get (y ∷ ys) (cond (not b) (1 + position_or_len p ys) 0) ≡ Some x
      go true e a f = ap Some (only y e)
      go false e a f =
          let next : suc (position_or_len p ys) ≡ 1 + position_or_len p ys = omega arith in
          subst (λ (n : ℕ). slice_get (y ∷ ys) n ≡ Some x) next (f a)

  -- where it finds none, a new last element is at its place
  pub at_new_place : (xs : List X) → list_any p xs ≡ false → slice_get (xs ++ x ∷ []) (position_or_len p xs) ≡ Some x
  at_new_place [] h = refl
  at_new_place (y ∷ ys) h = go (p y) h (at_new_place ys)
    where
      go : (b : Bool) → (b || list_any p ys) ≡ false → (list_any p ys ≡ false → slice_get (ys ++ x ∷ []) (position_or_len p ys) ≡ Some x) → slice_get (y ∷ ys ++ x ∷ []) (cond (not b) (1 + position_or_len p ys) 0) ≡ Some x
      go true a f = cc
      go false a f =
          let next : suc (position_or_len p ys) ≡ 1 + position_or_len p ys = omega arith in
          subst (λ (n : ℕ). slice_get (y ∷ (ys ++ x ∷ [])) n ≡ Some x) next (f a)

  -- in the list that gains the element once, it is at its place
  pub at_place : (xs : List X) → slice_get (if list_any p xs then xs else xs ++ x ∷ []) (position_or_len p xs) ≡ Some x
  at_place xs = go (list_any p xs) refl
    where
      go : (b : Bool) → list_any p xs ≡ b → slice_get (if b then xs else xs ++ x ∷ []) (position_or_len p xs) ≡ Some x
      go true h = at_own_place xs h
      go false h = at_new_place xs h

  -- and every other element stays at its own
  pub others_stay : (xs : List X) (i : ℕ) → i < length xs → slice_get (if list_any p xs then xs else xs ++ x ∷ []) i ≡ slice_get xs i
  others_stay xs i h = go (list_any p xs)
    where
      go : (b : Bool) → slice_get (if b then xs else xs ++ x ∷ []) i ≡ slice_get xs i
      go true = refl
      go false = slice_get-append xs (x ∷ []) i h
