-- Lemmas on lists.
use Rattle.std.proofs.Common.{◌≡◌, ℕ, zero, suc, ◌+◌, ◌<◌, ◌≤◌, List, [], ◌∷◌, ◌++◌, length, map, get_or, refl, arith, subst, sym, ap, reverse, ◌∙◌, drop, cond, Bool, true, false, Some, None, slice_get, position}
use Rattle.std.proofs.lemmas.List.{reverse-append}
use Rattle.std.specs.List.{AllByRecursion, position_or_len}
use Rattle.std.proofs.lemmas.List.{at_drop_more}
use Rattle.std.proofs.lemmas.Option.{get_or_from_slice_get, slice_get_within}
use Rattle.std.proofs.lemmas.Bool.{lt-ltb, le-ltb}

-- what holds of each element holds of the one at a place
pub all_at : {X : Type 0} (P : X → Type 0) (xs : List X) (i : ℕ) (d : X) → AllByRecursion P xs → i < length xs → P (get_or xs i d)
all_at P [] i d h lt = absurd (omega (arith, lt))
all_at P (x ∷ xs) zero d h lt = h.0
all_at P (x ∷ xs) (suc i) d h lt = all_at P xs i d h.1 (omega (arith, lt))

-- what holds of each element of two lists holds of each of both together
pub all_append : {X : Type 0} (P : X → Type 0) (xs ys : List X) → AllByRecursion P xs → AllByRecursion P ys → AllByRecursion P (xs ++ ys)
all_append P [] ys h k = k
all_append P (x ∷ xs) ys h k = (h.0, all_append P xs ys h.1 k)

pub all_front : {X : Type 0} (P : X → Type 0) (xs ys : List X) → AllByRecursion P (xs ++ ys) → AllByRecursion P xs
all_front P [] ys h = tt
all_front P (x ∷ xs) ys h = (h.0, all_front P xs ys h.1)

pub all_back : {X : Type 0} (P : X → Type 0) (xs ys : List X) → AllByRecursion P (xs ++ ys) → AllByRecursion P ys
all_back P [] ys h = h
all_back P (x ∷ xs) ys h = all_back P xs ys h.1

-- one element more, and one less
pub all_push : {X : Type 0} (P : X → Type 0) (xs ys : List X) (x : X) → ys ≡ xs ++ x ∷ [] → AllByRecursion P xs → P x → AllByRecursion P ys
all_push P xs ys x e h p = let Q : List _ → Type 0 = λ zs. AllByRecursion P zs in subst Q (sym e) (all_append P xs (x ∷ []) h (p, tt))

pub all_pop : {X : Type 0} (P : X → Type 0) (xs below : List X) (x : X) → xs ≡ below ++ x ∷ [] → AllByRecursion P xs → AllByRecursion P below × P x
all_pop P xs below x e h =
    let Q : List _ → Type 0 = λ zs. AllByRecursion P zs in
    let k = subst Q e h in
    (all_front P below (x ∷ []) k, (all_back P below (x ∷ []) k).0)

pub nothing_left : {X : Type 0} (xs : List X) → length xs ≡ 0 → xs ≡ []
nothing_left [] h = refl
nothing_left (x ∷ xs) h = absurd (omega (arith, h))

-- the last element is the first of the list the other way round
pub reversed_pop : {X : Type 0} (xs below : List X) (x : X) → xs ≡ below ++ x ∷ [] → reverse xs ≡ x ∷ reverse below
reversed_pop xs below x e = ap reverse e ∙ reverse-append below (x ∷ [])

-- what holds of each mapped element holds of the one at a place
pub all_mapped_at : {X Y : Type 0} (P : Y → Type 0) (f : X → Y) (xs : List X) (i : ℕ) (d : X) → AllByRecursion P (map f xs) → i < length xs → P (f (get_or xs i d))
all_mapped_at P f [] i d h lt = absurd (omega (arith, lt))
all_mapped_at P f (x ∷ xs) zero d h lt = h.0
all_mapped_at P f (x ∷ xs) (suc i) d h lt = all_mapped_at P f xs i d h.1 (omega (arith, lt))

-- what holds of each element holds of the one that is got
pub all_get : {X : Type 0} (P : X → Type 0) (xs : List X) (i : ℕ) (x : X) → AllByRecursion P xs → slice_get xs i ≡ Some x → P x
all_get P xs i x h e = subst P (get_or_from_slice_get xs i x x e) (all_at P xs i x h (slice_get_within xs i x e))

drop_at : {X : Type 0} (xs : List X) (i : ℕ) (x : X) → slice_get xs i ≡ Some x → drop i xs ≡ x ∷ drop (i + 1) xs
drop_at xs i x e = at_drop_more (λ ys. ys) xs i x (slice_get_within xs i x e) ∙ ap (λ y. y ∷ drop (i + 1) xs) (get_or_from_slice_get xs i x x e)

-- a search that has come to a place
pub place_next : {X : Type 0} (p : X → Bool) (xs : List X) (i : ℕ) (x : X) → slice_get xs i ≡ Some x → p x ≡ false
    → position_or_len p xs ≡ i + position_or_len p (drop i xs) → position_or_len p xs ≡ (i + 1) + position_or_len p (drop (i + 1) xs)
place_next p xs i x e away inv =
    let one : position_or_len p (x ∷ drop (i + 1) xs) ≡ 1 + position_or_len p (drop (i + 1) xs) = rw away refl in
    omega (arith, inv, ap (position_or_len p) (drop_at xs i x e), one)

pub place_found : {X : Type 0} (p : X → Bool) (xs : List X) (i : ℕ) (x : X) → slice_get xs i ≡ Some x → p x ≡ true → position_or_len p xs ≡ i + position_or_len p (drop i xs) → Some i ≡ position p xs
place_found p xs i x e there inv =
    let none : ◌≡◌ {A = ℕ} (position_or_len p (x ∷ drop (i + 1) xs)) 0 = rw there refl in
    let place : position_or_len p xs ≡ i = omega (arith, inv, ap (position_or_len p) (drop_at xs i x e), none) in
    let lt : position_or_len p xs < length xs = omega (arith, place, slice_get_within xs i x e) in
    sym (ap (λ (b : Bool). cond b (Some (position_or_len p xs)) None) (lt-ltb (position_or_len p xs) (length xs) lt) ∙ ap (λ (k : ℕ). Some k) place)

pub place_none : {X : Type 0} (p : X → Bool) (xs : List X) (i : ℕ) → length xs ≤ i → position_or_len p xs ≡ i + position_or_len p (drop i xs) → None ≡ position p xs
place_none p xs i le inv =
    let past : length xs ≤ position_or_len p xs = omega (arith, le, inv) in
    sym (ap (λ (b : Bool). cond b (Some (position_or_len p xs)) None) (le-ltb (position_or_len p xs) (length xs) past))
