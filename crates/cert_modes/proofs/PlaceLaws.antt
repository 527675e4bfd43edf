-- Elements of lists by their places, and tests of all of them.
use Rattle.std.proofs.Common.{◌≡◌, ◌↔◌, inl, inr, ℕ, zero, suc, ◌+◌, ◌<◌, ◌≤◌, Bool, true, false, ◌&&◌, ◌||◌, IsTrue, List, [], ◌∷◌, ◌++◌, length, take, slice_get, slice_index_or, None, Some, unwrap_or, refl, ap, sym, subst, ◌∙◌, arith}
use Rattle.std.specs.List.{AllByRecursion, list_all, list_any}
use Rattle.std.proofs.lemmas.Bool.{and_parts, cases_eq}
use Rattle.truth_rows.proofs.RowLaws.{both}
use Rattle.cert_structure.specs.Numbered.{AreEach, EachFrom}
use Rattle.cert_structure.specs.Shape.{items_of}

-- an element more at the end
pub pushed : {X : Type 0} → (P : ℕ → X → Type 0) (xs : List X) (x : X) → ((i : ℕ) (y : X) → slice_get xs i ≡ Some y → P i y) → P (length xs) x
    → (i : ℕ) (y : X) → slice_get (xs ++ x ∷ []) i ≡ Some y → P i y
pushed P [] x all one zero y e = let is : x ≡ y = cc in subst (P 0) is one
pushed P [] x all one (suc i) y e = cc
pushed P (z ∷ xs) x all one zero y e = all 0 y e
pushed P (z ∷ xs) x all one (suc i) y e = pushed (λ j. P (suc j)) xs x (λ j w f. all (suc j) w f) one i y e

pub pushed_length : {X : Type 0} → (xs : List X) (x : X) → length (xs ++ x ∷ []) ≡ length xs + 1
pushed_length [] x = omega arith
pushed_length (y ∷ xs) x = omega (arith, pushed_length xs x)

pub items_at : {X : Type 0} → (xs : List (List X)) (q : ℕ) (ds : List X) → slice_get xs q ≡ Some ds → items_of xs q ≡ ds
items_at xs q ds e = ap (λ o. unwrap_or o []) e

-- past the end there is nothing
pub nothing_at : {X : Type 0} → (xs : List X) (i : ℕ) → ((i < length xs) → ⊥) → slice_get xs i ≡ None
nothing_at [] i past = refl
nothing_at (x ∷ xs) zero past = absurd (past (omega arith))
nothing_at (x ∷ xs) (suc i) past = nothing_at xs i (λ lt. past (omega arith))

pub beyond : {X : Type 0} → (xs : List X) (i : ℕ) (d : X) → length xs ≤ i → slice_index_or xs i d ≡ d
beyond [] i d le = refl
beyond (x ∷ xs) zero d le = absurd (omega arith)
beyond (x ∷ xs) (suc i) d le = beyond xs i d (omega arith)

pub absent : {X : Type 0} → (xs : List X) (i : ℕ) (d : X) → slice_get xs i ≡ None → slice_index_or xs i d ≡ d
absent [] i d e = refl
absent (x ∷ xs) zero d e = cc
absent (x ∷ xs) (suc i) d e = absent xs i d e

pub all_true : {X : Type 0} → (f : X → Bool) (xs : List X) → ((i : ℕ) (x : X) → slice_get xs i ≡ Some x → f x ≡ true) → list_all f xs ≡ true
all_true f [] h = refl
all_true f (x ∷ xs) h = let first = h 0 x refl in let rest = all_true f xs (λ i y e. h (suc i) y e) in (λ k. first k && list_all f xs) ∙ rest

pub all_false : {X : Type 0} → (f : X → Bool) (xs : List X) (i : ℕ) (x : X) → slice_get xs i ≡ Some x → f x ≡ false → list_all f xs ≡ false
all_false f [] i x e fails = cc
all_false f (y ∷ xs) zero x e fails = let is : x ≡ y = cc in (λ k. f (sym is k) && list_all f xs) ∙ (λ k. fails k && list_all f xs)
all_false f (y ∷ xs) (suc i) x e fails = let rest = all_false f xs i x e fails in (λ k. f y && rest k) ∙ ends (f y)
  where
    ends : (b : Bool) → (b && false) ≡ false
    ends true = refl
    ends false = refl

pub any_same : {X Y : Type 0} → (f : X → Bool) (g : Y → Bool) (xs : List X) (ys : List Y) → length xs ≡ length ys
    → ((i : ℕ) (x : X) (y : Y) → slice_get xs i ≡ Some x → slice_get ys i ≡ Some y → f x ≡ g y) → list_any f xs ≡ list_any g ys
any_same f g [] [] e h = refl
any_same f g [] (y ∷ ys) e h = absurd (omega (arith, e))
any_same f g (x ∷ xs) [] e h = absurd (omega (arith, e))
any_same f g (x ∷ xs) (y ∷ ys) e h =
    let first = h 0 x y refl refl in
    let rest = any_same f g xs ys (omega (arith, e)) (λ i u w p q. h (suc i) u w p q) in
    λ k. first k || rest k

-- what holds below a number, and of it
pub below_more : (Q : ℕ → Type 0) (n : ℕ) → ((j : ℕ) → j < n → Q j) → Q n → (j : ℕ) → j < n + 1 → Q j
below_more Q n all one j lt = elim (cases_eq j n) [
  | inl same ↦ subst Q (sym same) one
  | inr other ↦ all j (omega arith)
]

take_next : {X : Type 0} → (xs : List X) (n : ℕ) (x : X) → slice_get xs n ≡ Some x → (take n xs ++ x ∷ []) ≡ take (suc n) xs
take_next [] n x e = cc
take_next (y ∷ xs) zero x e = let same : x ≡ y = cc in λ i. same i ∷ []
take_next (y ∷ xs) (suc n) x e = let rest = take_next xs n x e in λ i. y ∷ rest i

-- an element more of those before a place
pub take_more : {X : Type 0} → (xs : List X) (n : ℕ) (x : X) → slice_get xs n ≡ Some x → (take n xs ++ x ∷ []) ≡ take (n + 1) xs
take_more xs n x e = let next : suc n ≡ n + 1 = omega arith in take_next xs n x e ∙ ap (λ k. take k xs) next

-- a test of each element
pub all_test : {X : Type 0} → (f : X → Bool) (xs : List X) → IsTrue (list_all f xs) ↔ AllByRecursion (λ x. IsTrue (f x)) xs
all_test f [] = (λ t. tt, λ all. refl)
all_test f (x ∷ xs) = (
  λ t. let a = and_parts (f x) (list_all f xs) t in (a.0, (all_test f xs).0 a.1),
  λ all. both (f x) (list_all f xs) all.0 ((all_test f xs).1 all.1),
)

-- what each item has by its number
each_from : {X : Type 0} → (i : ℕ) (P : ℕ → X → Type 0) (xs : List X) → EachFrom i P xs → (q : ℕ) (x : X) → slice_get xs q ≡ Some x → P (i + q) x
each_from i P [] all q x e = cc
each_from i P (y ∷ xs) all zero x e =
    let same : y ≡ x = cc in
    let here : i ≡ i + 0 = omega arith in
    subst (λ k. P k x) here (subst (P i) same all.0)
each_from i P (y ∷ xs) all (suc q) x e =
    let here : suc i + q ≡ i + suc q = omega arith in
    subst (λ k. P k x) here (each_from (suc i) P xs all.1 q x e)

pub each_at : {X : Type 0} → (n : ℕ) (P : ℕ → X → Type 0) (xs : List X) → AreEach n P xs → (q : ℕ) (x : X) → slice_get xs q ≡ Some x → P q x
each_at n P xs all q x e =
    let here : 0 + q ≡ q = omega arith in
    subst (λ k. P k x) here (each_from 0 P xs all.each q x e)
