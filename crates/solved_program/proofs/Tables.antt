-- Tables of which some places are taken from another one.
use Rattle.std.proofs.Common.{◌≡◌, ℕ, zero, suc, ◌<◌, ◌≤◌, ◌==◌, ◌||◌, Bool, true, false, if◌then◌else◌, inl, inr, List, [], ◌∷◌, ◌++◌, length, map, slice_get, slice_set, take, Some, refl, ap, sym, subst, ◌∙◌, arith, eq-eqb, eqb-true}
use Rattle.std.proofs.lemmas.Bool.{cases_eq}
use Rattle.call_components.proofs.Lists.{slice_get-set_same, slice_get-set_other}
use Rattle.solved_program.specs.Taken.{is_among, AreTaken}

-- ---- places
pub among_of : (xs : List ℕ) (i x : ℕ) → slice_get xs i ≡ Some x → is_among xs x ≡ true
among_of [] i x e = cc
among_of (y ∷ xs) zero x e = let is : y ≡ x = cc in ap (λ (b : Bool). b || is_among xs x) (eq-eqb y x is)
among_of (y ∷ xs) (suc i) x e = ap (λ (b : Bool). (y == x) || b) (among_of xs i x e) ∙ last (y == x)
  where
    last : (b : Bool) → (b || true) ≡ true
    last true = refl
    last false = refl

pub of_among : (xs : List ℕ) (x : ℕ) → is_among xs x ≡ true → (i : ℕ) × (slice_get xs i ≡ Some x)
of_among [] x e = cc
of_among (y ∷ xs) x e = go (y == x) refl (λ f. of_among xs x f) e
  where
    go : (b : Bool) → (y == x) ≡ b → (is_among xs x ≡ true → (i : ℕ) × (slice_get xs i ≡ Some x)) → (b || is_among xs x) ≡ true → (i : ℕ) × (slice_get (y ∷ xs) i ≡ Some x)
    go true t more e = (0, ap Some (eqb-true y x t))
    go false t more e = let m = more e in (suc m.0, m.1)

among_more : (xs : List ℕ) (y x : ℕ) → is_among (xs ++ y ∷ []) x ≡ (is_among xs x || (y == x))
among_more [] y x = go (y == x)
  where
    go : (b : Bool) → (b || false) ≡ (false || b)
    go true = refl
    go false = refl
among_more (z ∷ xs) y x = ap (λ (b : Bool). (z == x) || b) (among_more xs y x) ∙ assoc (z == x) (is_among xs x) (y == x)
  where
    assoc : (a b c : Bool) → (a || (b || c)) ≡ ((a || b) || c)
    assoc true b c = refl
    assoc false b c = refl

-- ---- tables
pub none_taken : {X : Type 0} (from old : List X) → AreTaken [] from old old
none_taken from old x = refl

pub taken_here : {X : Type 0} (places : List ℕ) (from old now : List X) (q : ℕ) (v : X) → AreTaken places from old now → slice_get from q ≡ Some v → q < length now → AreTaken (places ++ q ∷ []) from old (slice_set now q v)
taken_here places from old now q v h at lt x = elim (cases_eq x q) [
  | inl same ↦
      let on_ : is_among (places ++ q ∷ []) x ≡ true = among_more places q x ∙ ap (λ (b : Bool). is_among places x || b) (eq-eqb q x (sym same)) ∙ last (is_among places x) in
      ap (slice_get (slice_set now q v)) same ∙ slice_get-set_same now q v lt ∙ sym at ∙ ap (slice_get from) (sym same) ∙ sym (ap (λ (b : Bool). if b then slice_get from x else slice_get old x) on_)
  | inr ne ↦
      let off : is_among (places ++ q ∷ []) x ≡ is_among places x = among_more places q x ∙ ap (λ (b : Bool). is_among places x || b) (apart ne) ∙ plain (is_among places x) in
      slice_get-set_other now q x v ne ∙ h x ∙ sym (ap (λ (b : Bool). if b then slice_get from x else slice_get old x) off)
]
  where
    last : (b : Bool) → (b || true) ≡ true
    last true = refl
    last false = refl

    plain : (b : Bool) → (b || false) ≡ b
    plain true = refl
    plain false = refl

    apart : (x ≡ q → ⊥) → (q == x) ≡ false
    apart ne = go (q == x) refl
      where
        go : (b : Bool) → (q == x) ≡ b → b ≡ false
        go true t = absurd (ne (sym (eqb-true q x t)))
        go false t = refl

pub at_taken : {X : Type 0} (places : List ℕ) (from old new : List X) (x : ℕ) → AreTaken places from old new → is_among places x ≡ true → slice_get new x ≡ slice_get from x
at_taken places from old new x h e = h x ∙ ap (λ (b : Bool). if b then slice_get from x else slice_get old x) e

pub at_other : {X : Type 0} (places : List ℕ) (from old new : List X) (x : ℕ) → AreTaken places from old new → is_among places x ≡ false → slice_get new x ≡ slice_get old x
at_other places from old new x h e = h x ∙ ap (λ (b : Bool). if b then slice_get from x else slice_get old x) e

-- all places
take_all : {X : Type 0} (xs : List X) (i : ℕ) → length xs ≤ i → take i xs ≡ xs
take_all [] zero l = refl
take_all [] (suc i) l = refl
take_all (x ∷ xs) zero l = absurd (omega arith)
take_all (x ∷ xs) (suc i) l = ap (λ ys. x ∷ ys) (take_all xs i (omega arith))

pub whole_taken : {X Y : Type 0} (place : X → ℕ) (xs : List X) (i : ℕ) (from old new : List Y) → length xs ≤ i → AreTaken (map place (take i xs)) from old new → AreTaken (map place xs) from old new
whole_taken place xs i from old new l h = subst (λ ys. AreTaken (map place ys) from old new) (take_all xs i l) h
