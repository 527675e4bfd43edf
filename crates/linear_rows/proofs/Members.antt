-- The elements of a list, by recursion on it.
use Rattle.std.proofs.Common.{◌≡◌, List, [], ◌∷◌, ◌++◌, Bool, true, false, cond, map, refl, sym, subst, ap, ◌∙◌, inl, inr, ◌⊎◌}
use Rattle.std.specs.Prelude.{All, filter}
use Rattle.std.specs.List.{flat_map}
use Rattle.linear_rows.specs.Members.{In}
use Rattle.std.proofs.lemmas.List.Elements.{All-head, All-tail, All-cons, All-nil}

in-cond : {X : Type 0} (b : Bool) (y x : X) (zs : List X) → In x zs → In x (cond b (y ∷ zs) zs)
in-cond true y x zs h = inr h
in-cond false y x zs h = h

of-cond : {X : Type 0} (b : Bool) (y x : X) (zs : List X) → In x (cond b (y ∷ zs) zs) → ((y ≡ x) × (b ≡ true)) ⊎ In x zs
of-cond true y x zs (inl is) = inl (is, refl)
of-cond true y x zs (inr h) = inr h
of-cond false y x zs h = inr h

pub in-filter : {X : Type 0} (p : X → Bool) (xs : List X) (x : X) → p x ≡ true → In x xs → In x (filter p xs)
in-filter p [] x e h = h
in-filter p (y ∷ ys) x e (inl is) = let t : p y ≡ true = ap p is ∙ e in rw t (inl is)
in-filter p (y ∷ ys) x e (inr h) = in-cond (p y) y x (filter p ys) (in-filter p ys x e h)

pub of-filter : {X : Type 0} (p : X → Bool) (xs : List X) (x : X) → In x (filter p xs) → In x xs × (p x ≡ true)
of-filter p [] x h = absurd h
of-filter p (y ∷ ys) x h = elim (of-cond (p y) y x (filter p ys) h) [
  | inl l ↦ (inl l.0, ap p (sym l.0) ∙ l.1)
  | inr r ↦ let s = of-filter p ys x r in (inr s.0, s.1)
]

pub in-left : {X : Type 0} (xs ys : List X) (x : X) → In x xs → In x (xs ++ ys)
in-left [] ys x h = absurd h
in-left (z ∷ xs) ys x (inl is) = inl is
in-left (z ∷ xs) ys x (inr h) = inr (in-left xs ys x h)

pub in-right : {X : Type 0} (xs ys : List X) (x : X) → In x ys → In x (xs ++ ys)
in-right [] ys x h = h
in-right (z ∷ xs) ys x h = inr (in-right xs ys x h)

pub of-append : {X : Type 0} (xs ys : List X) (x : X) → In x (xs ++ ys) → In x xs ⊎ In x ys
of-append [] ys x h = inr h
of-append (z ∷ xs) ys x (inl is) = inl (inl is)
of-append (z ∷ xs) ys x (inr h) = elim (of-append xs ys x h) [ inl l ↦ inl (inr l) | inr r ↦ inr r ]

pub in-map : {X Y : Type 0} (f : X → Y) (xs : List X) (x : X) → In x xs → In (f x) (map f xs)
in-map f [] x h = h
in-map f (z ∷ xs) x (inl is) = inl (ap f is)
in-map f (z ∷ xs) x (inr h) = inr (in-map f xs x h)

pub of-map : {X Y : Type 0} (f : X → Y) (xs : List X) (y : Y) → In y (map f xs) → (x : X) × In x xs × (f x ≡ y)
of-map f [] y h = absurd h
of-map f (z ∷ xs) y (inl is) = (z, inl refl, is)
of-map f (z ∷ xs) y (inr h) = let r = of-map f xs y h in (r.0, inr r.1, r.2)

pub in-flat_map : {X Y : Type 0} (f : X → List Y) (xs : List X) (x : X) (y : Y) → In x xs → In y (f x) → In y (flat_map f xs)
in-flat_map f [] x y h k = absurd h
in-flat_map f (z ∷ xs) x y (inl is) k = in-left (f z) (flat_map f xs) y (rw is k)
in-flat_map f (z ∷ xs) x y (inr h) k = in-right (f z) (flat_map f xs) y (in-flat_map f xs x y h k)

pub of-flat_map : {X Y : Type 0} (f : X → List Y) (xs : List X) (y : Y) → In y (flat_map f xs) → (x : X) × In x xs × In y (f x)
of-flat_map f [] y h = absurd h
of-flat_map f (z ∷ xs) y h = elim (of-append (f z) (flat_map f xs) y h) [
  | inl l ↦ (z, inl refl, l)
  | inr r ↦ let s = of-flat_map f xs y r in (s.0, inr s.1, s.2)
]

pub from_All : {X : Type 0} (P : X → Type 0) (xs : List X) (x : X) → All P xs → In x xs → P x
from_All P [] x a h = absurd h
from_All P (y ∷ ys) x a (inl is) = subst P is (All-head P y ys a)
from_All P (y ∷ ys) x a (inr h) = from_All P ys x (All-tail P y ys a) h

pub to_All : {X : Type 0} (P : X → Type 0) (xs : List X) → ((x : X) → In x xs → P x) → All P xs
to_All P [] h = All-nil P
to_All P (y ∷ ys) h = All-cons P y ys (h y (inl refl)) (to_All P ys (λ x i. h x (inr i)))
