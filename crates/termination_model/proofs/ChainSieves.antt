-- Sublists with a fact for each row that stays and each that goes.
use Rattle.std.proofs.Common.{◌≡◌, ◌≢◌, suc, ◌≤◌, ℤ, List, [], ◌∷◌, inl, inr, length, refl, ap, sym, subst, ◌∙◌, arith}
use Rattle.std.specs.List.{AllByRecursion}
use Rattle.linear_rows.specs.Members.{In}
use Rattle.termination_model.specs.claims.Claims.{SomeOf}
use Rattle.termination_model.specs.chains.ChainRows.{Sieved}

pub stayed : (P Q : List ℤ → Type 0) (xs ys : List (List ℤ)) → Sieved P Q xs ys → AllByRecursion P ys
stayed P Q [] ys e = subst (AllByRecursion P) (sym e) tt
stayed P Q (x ∷ xs) ys (inl (p, zs, e, s)) = subst (AllByRecursion P) (sym e) (p, stayed P Q xs zs s)
stayed P Q (x ∷ xs) ys (inr (q, s)) = stayed P Q xs ys s

pub some_in : {X : Type 0} (P : X → Type 0) (xs : List X) → SomeOf P xs → (x : X) × In x xs × P x
some_in P [] s = absurd s
some_in P (x ∷ xs) (inl p) = (x, inl refl, p)
some_in P (x ∷ xs) (inr s) = let r = some_in P xs s in (r.0, inr r.1, r.2)

pub of_all : {X : Type 0} (P : X → Type 0) (xs : List X) (x : X) → AllByRecursion P xs → In x xs → P x
of_all P [] x a h = absurd h
of_all P (y ∷ ys) x a (inl is) = subst P is a.0
of_all P (y ∷ ys) x a (inr h) = of_all P ys x a.1 h

pub all_of : {X : Type 0} (P : X → Type 0) (xs : List X) → ((x : X) → In x xs → P x) → AllByRecursion P xs
all_of P [] h = tt
all_of P (x ∷ xs) h = (h x (inl refl), all_of P xs (λ y i. h y (inr i)))

pub resieved : (P Q R : List ℤ → Type 0) (xs ys : List (List ℤ)) → Sieved R Q xs ys → AllByRecursion P ys → Sieved P Q xs ys
resieved P Q R [] ys s a = s
resieved P Q R (x ∷ xs) ys (inl (r, zs, e, s)) a =
    let b : AllByRecursion P (x ∷ zs) = subst (AllByRecursion P) e a in
    inl (b.0, zs, e, resieved P Q R xs zs s b.1)
resieved P Q R (x ∷ xs) ys (inr (q, s)) a = inr (q, resieved P Q R xs ys s a)

pub goes_map : (P Q R : List ℤ → Type 0) → ((x : List ℤ) → Q x → R x) → (xs ys : List (List ℤ)) → Sieved P Q xs ys → Sieved P R xs ys
goes_map P Q R f [] ys s = s
goes_map P Q R f (x ∷ xs) ys (inl (p, zs, e, s)) = inl (p, zs, e, goes_map P Q R f xs zs s)
goes_map P Q R f (x ∷ xs) ys (inr (q, s)) = inr (f x q, goes_map P Q R f xs ys s)

pub sieved_length : (P Q : List ℤ → Type 0) (xs ys : List (List ℤ)) → Sieved P Q xs ys → length ys ≤ length xs
sieved_length P Q [] ys s = let l : length ys ≡ 0 = ap length s in omega arith
sieved_length P Q (x ∷ xs) ys (inl (p, zs, e, s)) = let l : length ys ≡ suc (length zs) = ap length e in omega (arith, sieved_length P Q xs zs s)
sieved_length P Q (x ∷ xs) ys (inr (q, s)) = omega (arith, sieved_length P Q xs ys s)

pub sieved_all : (P Q : List ℤ → Type 0) (xs ys : List (List ℤ)) → Sieved P Q xs ys → length xs ≡ length ys → ys ≡ xs
sieved_all P Q [] ys s h = s
sieved_all P Q (x ∷ xs) ys (inl (p, zs, e, s)) h =
    let l : length ys ≡ suc (length zs) = ap length e in
    e ∙ ap (λ (rs : List (List ℤ)). x ∷ rs) (sieved_all P Q xs zs s (omega arith))
sieved_all P Q (x ∷ xs) ys (inr (q, s)) h = absurd (omega (arith, sieved_length P Q xs ys s))

pub sieved_lost : (P Q : List ℤ → Type 0) (xs ys : List (List ℤ)) → Sieved P Q xs ys → length xs ≢ length ys → SomeOf Q xs
sieved_lost P Q [] ys s h = absurd (h (ap length (sym s)))
sieved_lost P Q (x ∷ xs) ys (inl (p, zs, e, s)) h =
    let l : length ys ≡ suc (length zs) = ap length e in
    inr (sieved_lost P Q xs zs s (λ same. h (omega arith)))
sieved_lost P Q (x ∷ xs) ys (inr (q, s)) h = inl q

pub sieved_in : (P Q : List ℤ → Type 0) (xs ys : List (List ℤ)) → Sieved P Q xs ys → (x : List ℤ) → In x ys → In x xs
sieved_in P Q [] ys s x i = subst (In x) s i
sieved_in P Q (y ∷ xs) ys (inl (p, zs, e, s)) x i = elim (subst (In x) e i) [ inl is ↦ inl is | inr j ↦ inr (sieved_in P Q xs zs s x j) ]
sieved_in P Q (y ∷ xs) ys (inr (q, s)) x i = inr (sieved_in P Q xs ys s x i)

pub some_map : (P Q : List ℤ → Type 0) → ((x : List ℤ) → P x → Q x) → (xs : List (List ℤ)) → SomeOf P xs → SomeOf Q xs
some_map P Q f [] s = s
some_map P Q f (x ∷ xs) (inl p) = inl (f x p)
some_map P Q f (x ∷ xs) (inr s) = inr (some_map P Q f xs s)
