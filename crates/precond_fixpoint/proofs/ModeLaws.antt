-- Minimal modes, and lists that are filtered.
use Rattle.std.proofs.Common.{◌≡◌, ℕ, zero, suc, ◌+◌, Bool, true, false, ◌&&◌, ◌||◌, not, nat_lt, List, [], ◌∷◌, ◌++◌, length, take, slice_get, Some, refl, ap, sym, ◌∙◌, arith}
use Rattle.std.specs.List.{filter, list_any}
use Rattle.std.proofs.lemmas.List.Elements.{filter-append}
use Rattle.termination_model.specs.claims.Descent.{mode_row}
use Rattle.termination_model.specs.grounds.Modes.{chosen_up_to, is_part, modes}

length-mode_row : (mode : List ℕ) (i n : ℕ) → length (mode_row mode i n) ≡ n
length-mode_row mode i zero = refl
length-mode_row mode i (suc n) = ap suc (length-mode_row mode (suc i) n)

-- sets with the same rows of a length have the same modes
pub modes_same : (n : ℕ) (f g : List Bool → Bool) → ((row : List Bool) → length row ≡ n → f row ≡ g row) → modes n f ≡ modes n g
modes_same n f g same =
    ap (λ (t : List ℕ → Bool). filter (λ args. not (list_any (λ less. nat_lt (length less) (length args) && is_part less args) (filter t (chosen_up_to n n)))) (filter t (chosen_up_to n n)))
    (λ i args. same (mode_row args 1 n) (length-mode_row args 1 n) i)

take_next : {X : Type 0} → (xs : List X) (n : ℕ) (x : X) → slice_get xs n ≡ Some x → (take n xs ++ x ∷ []) ≡ take (suc n) xs
take_next [] n x e = cc
take_next (y ∷ xs) zero x e = let same : x ≡ y = cc in λ i. same i ∷ []
take_next (y ∷ xs) (suc n) x e = let rest = take_next xs n x e in λ i. y ∷ rest i

-- an element more of those before a place
pub take_more : {X : Type 0} → (xs : List X) (n : ℕ) (x : X) → slice_get xs n ≡ Some x → (take n xs ++ x ∷ []) ≡ take (n + 1) xs
take_more xs n x e = let next : suc n ≡ n + 1 = omega arith in take_next xs n x e ∙ ap (λ k. take k xs) next

one_kept : {X : Type 0} → (f : X → Bool) (x : X) → f x ≡ true → filter f (x ∷ []) ≡ x ∷ []
one_kept f x e = rw e refl

one_left : {X : Type 0} → (f : X → Bool) (x : X) → f x ≡ false → filter f (x ∷ []) ≡ []
one_left f x e = rw e refl

append_none : {X : Type 0} → (xs : List X) → (xs ++ []) ≡ xs
append_none [] = refl
append_none (x ∷ xs) = let rest = append_none xs in λ i. x ∷ rest i

-- an element more that is kept or not
pub filter_kept : {X : Type 0} → (f : X → Bool) (xs : List X) (x : X) → f x ≡ true → filter f (xs ++ x ∷ []) ≡ filter f xs ++ x ∷ []
filter_kept f xs x e = filter-append f xs (x ∷ []) ∙ (λ i. filter f xs ++ one_kept f x e i)

pub filter_left : {X : Type 0} → (f : X → Bool) (xs : List X) (x : X) → f x ≡ false → filter f (xs ++ x ∷ []) ≡ filter f xs
filter_left f xs x e = filter-append f xs (x ∷ []) ∙ (λ i. filter f xs ++ one_left f x e i) ∙ append_none (filter f xs)

pub filter_kept_at : {X : Type 0} → (f : X → Bool) (xs : List X) (n : ℕ) (x : X) → slice_get xs n ≡ Some x → f x ≡ true → filter f (take (n + 1) xs) ≡ filter f (take n xs) ++ x ∷ []
filter_kept_at f xs n x at e = ap (filter f) (sym (take_more xs n x at)) ∙ filter_kept f (take n xs) x e

pub filter_left_at : {X : Type 0} → (f : X → Bool) (xs : List X) (n : ℕ) (x : X) → slice_get xs n ≡ Some x → f x ≡ false → filter f (take (n + 1) xs) ≡ filter f (take n xs)
filter_left_at f xs n x at e = ap (filter f) (sym (take_more xs n x at)) ∙ filter_left f (take n xs) x e

pub any_false : {X : Type 0} → (f : X → Bool) (xs : List X) → ((i : ℕ) (x : X) → slice_get xs i ≡ Some x → f x ≡ false) → list_any f xs ≡ false
any_false f [] h = refl
any_false f (x ∷ xs) h = (λ i. h 0 x refl i || list_any f xs) ∙ any_false f xs (λ i y e. h (suc i) y e)
