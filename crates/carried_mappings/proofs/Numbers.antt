-- Clauses under other numbers, in order.
use Rattle.std.proofs.Common.{◌≡◌, ℕ, zero, suc, ◌<◌, ◌≤◌, ◌==◌, Bool, true, false, if◌then◌else◌, inl, inr, List, [], ◌∷◌, map, length, get_or, nat_lt, slice_get, Some, refl, ap, sym, ◌∙◌, arith, eq-eqb, eqb-true}
use Rattle.std.proofs.lemmas.Bool.Decides.{nat_tests}
use Rattle.linear_rows.specs.Members.{In}
use Rattle.cti_terms.specs.declared.clauses.Clause.{Clause}
use Rattle.termination_model.specs.chains.Chain.{counted}
use Rattle.std.specs.Prelude.{filter, cond}
use Rattle.carried_mappings.specs.Moved.{moved}

abbrev pub Numbered : Type 0
Numbered = ℕ × Clause

abbrev pub numbers_of : List Numbered → List ℕ
numbers_of ks = map (λ (k : Numbered). k.0) ks

-- ---- ascending numbers, from n on
abbrev pub Rises : ℕ → List ℕ → Type 0
Rises n [] = Unit {0}
Rises n (x ∷ xs) = (n ≤ x) × Rises (suc x) xs

pub rises_from : (n k : ℕ) (xs : List ℕ) → n ≤ k → Rises k xs → Rises n xs
rises_from n k [] le r = tt
rises_from n k (x ∷ xs) le r = let l = r.0 in (omega arith, r.1)

pub rises_over : (n : ℕ) (xs : List ℕ) (x : ℕ) → Rises n xs → In x xs → n ≤ x
rises_over n [] x r i = absurd i
rises_over n (y ∷ xs) x r (inl e) = let l = r.0 in omega arith
rises_over n (y ∷ xs) x r (inr i) = let l = r.0 in let k = rises_over (suc y) xs x r.1 i in omega arith

-- clauses that are picked in order have ascending numbers
pub rises_counted : (test : Numbered → Bool) (n : ℕ) (ks : List Clause) → Rises n (numbers_of (filter test (counted n ks)))
rises_counted test n [] = tt
rises_counted test n (k ∷ ks) = go (test (n, k)) (rises_counted test (suc n) ks)
  where
    go : (b : Bool) → Rises (suc n) (numbers_of (filter test (counted (suc n) ks))) → Rises n (numbers_of (cond b ((n, k) ∷ filter test (counted (suc n) ks)) (filter test (counted (suc n) ks))))
    go true r = (omega arith, r)
    go false r = rises_from n (suc n) (numbers_of (filter test (counted (suc n) ks))) (omega arith) r

-- ---- numbers that stand for others
-- each number of the second list is that which stands for the number at its place in the first
abbrev pub AreMoved : (ℕ → ℕ) → List ℕ → List ℕ → Type 0
AreMoved g [] [] = Unit {0}
AreMoved g [] (y ∷ ys) = ⊥
AreMoved g (x ∷ xs) [] = ⊥
AreMoved g (x ∷ xs) (y ∷ ys) = (g x ≡ y) × AreMoved g xs ys

moved_by : (g h : ℕ → ℕ) (xs ys : List ℕ) → ((x : ℕ) → In x xs → h x ≡ g x) → AreMoved g xs ys → AreMoved h xs ys
moved_by g h [] [] e a = tt
moved_by g h [] (y ∷ ys) e a = absurd a
moved_by g h (x ∷ xs) [] e a = absurd a
moved_by g h (x ∷ xs) (y ∷ ys) e a = (e x (inl refl) ∙ a.0, moved_by g h xs ys (λ z i. e z (inr i)) a.1)

moved_first : (x y : ℕ) (xs ys : List ℕ) → moved (x ∷ xs) (y ∷ ys) x ≡ y
moved_first x y xs ys = λ i. if eq-eqb x x refl i then y else moved xs ys x

moved_later : (x y : ℕ) (xs ys : List ℕ) (n : ℕ) → (x ≡ n → ⊥) → moved (x ∷ xs) (y ∷ ys) n ≡ moved xs ys n
moved_later x y xs ys n ne = go (x == n) refl
  where
    go : (b : Bool) → (x == n) ≡ b → (if b then y else moved xs ys n) ≡ moved xs ys n
    go true e = absurd (ne (eqb-true x n e))
    go false e = refl

pub all_moved : (n : ℕ) (xs ys : List ℕ) → Rises n xs → length xs ≡ length ys → AreMoved (moved xs ys) xs ys
all_moved n [] [] r l = tt
all_moved n [] (y ∷ ys) r l = absurd (omega arith)
all_moved n (x ∷ xs) [] r l = absurd (omega arith)
all_moved n (x ∷ xs) (y ∷ ys) r l =
    (moved_first x y xs ys, moved_by (moved xs ys) (moved (x ∷ xs) (y ∷ ys)) xs ys (λ z i. moved_later x y xs ys z (λ e. let k = rises_over (suc x) xs z r.1 i in omega arith)) (all_moved (suc x) xs ys r.1 (omega arith)))

pub moved_in : (g : ℕ → ℕ) (xs ys : List ℕ) → AreMoved g xs ys → (x : ℕ) → In x xs → In (g x) ys
moved_in g [] ys a x i = absurd i
moved_in g (y ∷ xs) [] a x i = absurd a
moved_in g (y ∷ xs) (z ∷ ys) a x (inl e) = inl (sym a.0 ∙ ap g e)
moved_in g (y ∷ xs) (z ∷ ys) a x (inr i) = inr (moved_in g xs ys a.1 x i)

-- later numbers stay later
pub moved_after : (g : ℕ → ℕ) (n k : ℕ) (xs ys : List ℕ) → Rises n xs → Rises k ys → AreMoved g xs ys → (x y : ℕ) → In x xs → In y xs → x < y → g x < g y
moved_after g n k [] ys r s a x y i j l = absurd i
moved_after g n k (z ∷ xs) [] r s a x y i j l = absurd a
moved_after g n k (z ∷ xs) (w ∷ ys) r s a x y (inl e) (inl f) l = absurd (omega arith)
moved_after g n k (z ∷ xs) (w ∷ ys) r s a x y (inl e) (inr j) l =
    let first : g x ≡ w = ap g (sym e) ∙ a.0 in
    let over = rises_over (suc w) ys (g y) s.1 (moved_in g xs ys a.1 y j) in
    omega arith
moved_after g n k (z ∷ xs) (w ∷ ys) r s a x y (inr i) (inl f) l = let over = rises_over (suc z) xs x r.1 i in absurd (omega arith)
moved_after g n k (z ∷ xs) (w ∷ ys) r s a x y (inr i) (inr j) l = moved_after g (suc z) (suc w) xs ys r.1 s.1 a.1 x y i j l

-- the number at a place
pub moved_at : (n : ℕ) (xs ys : List ℕ) (i x y : ℕ) → Rises n xs → slice_get xs i ≡ Some x → slice_get ys i ≡ Some y → moved xs ys x ≡ y
moved_at n [] ys i x y r at there = cc
moved_at n (z ∷ xs) [] i x y r at there = cc
moved_at n (z ∷ xs) (w ∷ ys) zero x y r at there =
    let a : z ≡ x = cc in
    let b : w ≡ y = cc in
    ap (moved (z ∷ xs) (w ∷ ys)) (sym a) ∙ moved_first z w xs ys ∙ b
moved_at n (z ∷ xs) (w ∷ ys) (suc i) x y r at there =
    moved_later z w xs ys x (λ e. let k = rises_over (suc z) xs x r.1 (in_at xs i x at) in omega arith) ∙ moved_at (suc z) xs ys i x y r.1 at there
  where
    in_at : (xs : List ℕ) (i x : ℕ) → slice_get xs i ≡ Some x → In x xs
    in_at [] i x e = cc
    in_at (y ∷ xs) zero x e = inl cc
    in_at (y ∷ xs) (suc i) x e = inr (in_at xs i x e)

pub moved_none : (xs ys : List ℕ) (n : ℕ) → (In n xs → ⊥) → moved xs ys n ≡ n
moved_none [] ys n out = refl
moved_none (x ∷ xs) [] n out = refl
moved_none (x ∷ xs) (y ∷ ys) n out = moved_later x y xs ys n (λ e. out (inl e)) ∙ moved_none xs ys n (λ i. out (inr i))

-- ---- as a search finds them
pub rises_up : (n : ℕ) (xs : List ℕ) → Rises n xs → (i j : ℕ) → i ≤ j → j < length xs → get_or xs i 0 ≤ get_or xs j 0
rises_up n [] r i j le lt = absurd (omega arith)
rises_up n (x ∷ xs) r zero zero le lt = omega arith
rises_up n (x ∷ xs) r zero (suc j) le lt = let k = rises_over (suc x) xs (get_or xs j 0) r.1 (got_in xs j (omega arith)) in omega arith
  where
    got_in : (xs : List ℕ) (j : ℕ) → j < length xs → In (get_or xs j 0) xs
    got_in [] j l = absurd (omega arith)
    got_in (y ∷ xs) zero l = inl refl
    got_in (y ∷ xs) (suc j) l = inr (got_in xs j (omega arith))
rises_up n (x ∷ xs) r (suc i) zero le lt = absurd (omega arith)
rises_up n (x ∷ xs) r (suc i) (suc j) le lt = rises_up (suc x) xs r.1 i j (omega arith) (omega arith)

pub place_of : (xs : List ℕ) (n : ℕ) → In n xs → (k : ℕ) × (k < length xs) × (get_or xs k 0 ≡ n)
place_of [] n h = absurd h
place_of (x ∷ xs) n (inl e) = (0, omega arith, e)
place_of (x ∷ xs) n (inr h) = let more = place_of xs n h in (suc more.0, omega (arith, more.1), more.2)

-- a number that would stand between two places is at none
pub absent : (xs : List ℕ) (n place : ℕ) → ((k : ℕ) → k < place → get_or xs k 0 < n) → ((k : ℕ) → place ≤ k → k < length xs → n < get_or xs k 0) → In n xs → ⊥
absent xs n place low high i = go (place_of xs n i)
  where
    go : (k : ℕ) × (k < length xs) × (get_or xs k 0 ≡ n) → ⊥
    go (k, below, is) = split (nat_lt k place) refl
      where
        split : (t : Bool) → nat_lt k place ≡ t → ⊥
        split true e = let lt = low k (grind (arith, nat_tests)) in omega arith
        split false e = let gt = high k (grind (arith, nat_tests)) below in omega arith
