-- Elements by their places.
use Rattle.std.proofs.Common.{◌≡◌, ℕ, zero, suc, ◌+◌, ◌<◌, List, [], ◌∷◌, ◌++◌, length, take, drop, slice_get, get_or, set, map, option_map, Contains, Some, IsSomeAnd, Any, ◌⊎◌, inl, inr, refl, ap, sym, subst, ◌∙◌, arith}
use Rattle.std.specs.List.{AllByRecursion}
use Rattle.std.proofs.lemmas.Option.{slice_get_within, slice_get-map, slice_get-get_or, get_or_from_slice_get}
use Rattle.cti_terms.specs.declared.predicates.PredId.{PredId}
use Rattle.call_components.specs.Numbers.{number_of}
use Rattle.call_components.specs.Table.{Has}
use Rattle.cti_terms.proofs.Places.{slice_get-append}

-- after the first list come the elements of the second
pub slice_get-append_right : {X : Type 0} (xs ys : List X) (n i : ℕ) → n ≡ length xs + i → slice_get (xs ++ ys) n ≡ slice_get ys i
slice_get-append_right [] ys n i e = let same : n ≡ i = omega (arith, e) in ap (slice_get ys) same
slice_get-append_right (x ∷ xs) ys zero i e = absurd (omega (arith, e))
slice_get-append_right (x ∷ xs) ys (suc n) i e = slice_get-append_right xs ys n i (omega (arith, e))

pub slice_get-take : {X : Type 0} (n : ℕ) (xs : List X) (i : ℕ) → i < n → slice_get (take n xs) i ≡ slice_get xs i
slice_get-take zero xs i h = absurd (omega (arith, h))
slice_get-take (suc n) [] i h = refl
slice_get-take (suc n) (x ∷ xs) zero h = refl
slice_get-take (suc n) (x ∷ xs) (suc i) h = slice_get-take n xs i (omega (arith, h))

-- what is taken was there, and lies below the end
pub taken_at : {X : Type 0} (n : ℕ) (xs : List X) (i : ℕ) (x : X) → slice_get (take n xs) i ≡ Some x → (i < n) × (slice_get xs i ≡ Some x)
taken_at zero xs i x e = cc
taken_at (suc n) [] i x e = cc
taken_at (suc n) (y ∷ ys) zero x e = (omega arith, e)
taken_at (suc n) (y ∷ ys) (suc i) x e = let below = taken_at n ys i x e in (omega (arith, below.0), below.1)

pub slice_get-drop : {X : Type 0} (n : ℕ) (xs : List X) (i j : ℕ) → j ≡ n + i → slice_get (drop n xs) i ≡ slice_get xs j
slice_get-drop zero xs i j e = let same : i ≡ j = omega (arith, e) in ap (slice_get xs) same
slice_get-drop (suc n) [] i j e = refl
slice_get-drop (suc n) (x ∷ xs) i zero e = absurd (omega (arith, e))
slice_get-drop (suc n) (x ∷ xs) i (suc j) e = slice_get-drop n xs i j (omega (arith, e))

pub all_map : {X : Type 0} (P Q : X → Type 0) → ((x : X) → P x → Q x) → (xs : List X) → AllByRecursion P xs → AllByRecursion Q xs
all_map P Q f [] h = h
all_map P Q f (x ∷ xs) h = (f x h.0, all_map P Q f xs h.1)

-- two facts of each element
pub all_both : {X : Type 0} (P Q R : X → Type 0) → ((x : X) → P x → Q x → R x) → (xs : List X) → AllByRecursion P xs → AllByRecursion Q xs → AllByRecursion R xs
all_both P Q R f [] h k = h
all_both P Q R f (x ∷ xs) h k = (f x h.0 k.0, all_both P Q R f xs h.1 k.1)

-- what a list has, and what parts of it have
pub has_left : (xs ys : List ℕ) (b : ℕ) → Has xs b → Has (xs ++ ys) b
has_left xs ys b (k, e) = (k, slice_get-append xs ys k (slice_get_within xs k b e) ∙ e)

pub has_right : (xs ys : List ℕ) (b : ℕ) → Has ys b → Has (xs ++ ys) b
has_right xs ys b (k, e) = (length xs + k, slice_get-append_right xs ys (length xs + k) k refl ∙ e)

pub has_cases : (xs ys : List ℕ) (b : ℕ) → Has (xs ++ ys) b → Has xs b ⊎ Has ys b
has_cases [] ys b h = inr h
has_cases (x ∷ xs) ys b (zero, e) = inl (zero, e)
has_cases (x ∷ xs) ys b (suc k, e) =
    elim (has_cases xs ys b (k, e)) [
      | inl h ↦ inl (suc h.0, h.1)
      | inr h ↦ inr h
    ]

pub any_cases : {X : Type 0} (P : X → Type 0) (x : X) (xs : List X) → Any P (x ∷ xs) → P x ⊎ Any P xs
any_cases P x xs (zero, y, l, e, p) = inl (subst P (sym e) p)
any_cases P x xs (suc k, y, l, e, p) = inr (k, y, omega arith, e, p)

pub any_here : {X : Type 0} (P : X → Type 0) (x : X) (xs : List X) → P x → Any P (x ∷ xs)
any_here P x xs p = (zero, x, omega arith, refl, p)

pub any_there : {X : Type 0} (P : X → Type 0) (x : X) (xs : List X) → Any P xs → Any P (x ∷ xs)
any_there P x xs (k, y, l, e, p) = (suc k, y, omega arith, e, p)

pub some_within : {X : Type 0} (Q : X → Type 0) (xs : List X) (i : ℕ) → IsSomeAnd (slice_get xs i) Q → i < length xs
some_within Q [] i h = absurd h
some_within Q (x ∷ xs) zero h = omega arith
some_within Q (x ∷ xs) (suc i) h = omega (arith, some_within Q xs i h)

pub all_append : {X : Type 0} (P : X → Type 0) (xs ys : List X) → AllByRecursion P xs → AllByRecursion P ys → AllByRecursion P (xs ++ ys)
all_append P [] ys h k = k
all_append P (x ∷ xs) ys h k = (h.0, all_append P xs ys h.1 k)

-- what holds at each place holds of each element
pub all_from : {X : Type 0} (P : X → Type 0) (d : X) (xs : List X) → ((a : ℕ) → a < length xs → P (get_or xs a d)) → AllByRecursion P xs
all_from P d [] f = tt
all_from P d (x ∷ xs) f = (f zero (omega arith), all_from P d xs (λ a l. f (suc a) (omega arith)))

pub all_at : {X : Type 0} (P : X → Type 0) (xs : List X) (k : ℕ) (x : X) → AllByRecursion P xs → slice_get xs k ≡ Some x → P x
all_at P [] k x all e = cc
all_at P (y ∷ xs) zero x all e = let it : y ≡ x = cc in subst P it all.0
all_at P (y ∷ xs) (suc k) x all e = all_at P xs k x all.1 e

pub slice_get-set_same : {X : Type 0} (xs : List X) (i : ℕ) (x : X) → i < length xs → slice_get (set xs i x) i ≡ Some x
slice_get-set_same [] i x l = absurd (omega (arith, l))
slice_get-set_same (y ∷ xs) zero x l = refl
slice_get-set_same (y ∷ xs) (suc i) x l = slice_get-set_same xs i x (omega (arith, l))

pub slice_get-set_other : {X : Type 0} (xs : List X) (i j : ℕ) (x : X) → (j ≡ i → ⊥) → slice_get (set xs i x) j ≡ slice_get xs j
slice_get-set_other [] i j x ne = refl
slice_get-set_other (y ∷ xs) zero zero x ne = absurd (ne refl)
slice_get-set_other (y ∷ xs) zero (suc j) x ne = refl
slice_get-set_other (y ∷ xs) (suc i) zero x ne = refl
slice_get-set_other (y ∷ xs) (suc i) (suc j) x ne = slice_get-set_other xs i j x (λ e. ne (ap suc e))

-- the number of the predicate at a place
pub number_at_place : (preds : List PredId) (row : List ℕ) (k : ℕ) (d : PredId) → map number_of preds ≡ row → k < length preds → slice_get row k ≡ Some (get_or preds k d).0
number_at_place preds row k d e l =
    ap (λ (xs : List ℕ). slice_get xs k) (sym e) ∙ slice_get-map number_of preds k ∙ ap (option_map number_of) (slice_get-get_or preds k d l)

pub has_contains : (xs : List ℕ) (x : ℕ) → Has xs x → Contains xs x
has_contains xs x (k, e) = (k, slice_get_within xs k x e, get_or_from_slice_get xs k x x e)

pub contains_has : (xs : List ℕ) (x : ℕ) → Contains xs x → Has xs x
contains_has xs x (k, l, e) = (k, slice_get-get_or xs k x l ∙ ap Some e)
