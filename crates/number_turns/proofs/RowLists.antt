-- Lists of numbers and of columns.
use Rattle.std.proofs.Common.{◌≡◌, ℕ, zero, suc, ◌+◌, ℤ, pos, negsuc, ◌≤ℤ◌, List, [], ◌∷◌, ◌++◌, map, drop, slice_get, Some, refl, ap, sym, ◌∙◌, arith}
use Rattle.std.specs.Prelude.{All, unsigned_abs}
use Rattle.std.proofs.lemmas.Int.{ints}
use Rattle.linear_rows.specs.Solving.{zeros}
use Rattle.linear_rows.specs.Step.{columns}

pub drop_here : {X : Type 0} → (xs : List X) (i : ℕ) (x : X) → slice_get xs i ≡ Some x → drop i xs ≡ x ∷ drop (i + 1) xs
drop_here [] i x e = cc
drop_here (y ∷ xs) zero x e = let same : y ≡ x = cc in ap (λ z. z ∷ xs) same
drop_here (y ∷ xs) (suc i) x e = let more : suc i + 1 ≡ suc (i + 1) = omega arith in rw more (drop_here xs i x e)

push_zero : (n : ℕ) → zeros n ++ pos 0 ∷ [] ≡ zeros (suc n)
push_zero zero = refl
push_zero (suc n) = ap (λ s. pos 0 ∷ s) (push_zero n)

pub zeros_more : (n : ℕ) → zeros n ++ pos 0 ∷ [] ≡ zeros (n + 1)
zeros_more n = let more : suc n ≡ n + 1 = omega arith in push_zero n ∙ ap zeros more

-- one more column
columns_on : (k n : ℕ) → columns k (n + 1) ≡ columns k n ++ (k + n) ∷ []
columns_on k zero = let e : k + 0 ≡ k = omega arith in ap (λ m. m ∷ []) (sym e)
columns_on k (suc n) =
    let more : suc n + 1 ≡ suc (n + 1) = omega arith in
    let next : suc k + n ≡ k + suc n = omega arith in
    ap (columns k) more ∙ ap (λ s. k ∷ s) (columns_on (suc k) n ∙ ap (λ m. columns (suc k) n ++ m ∷ []) next)

pub columns_more : (n : ℕ) → columns 0 (n + 1) ≡ columns 0 n ++ n ∷ []
columns_more n = let e : 0 + n ≡ n = omega arith in columns_on 0 n ∙ ap (λ m. columns 0 n ++ m ∷ []) e

-- natural numbers are the images of some
one_natural : (x : ℤ) → pos 0 ≤ℤ x → x ≡ pos (unsigned_abs x)
one_natural (pos n) h = refl
one_natural (negsuc n) h = absurd (omega (arith, ints, h))

pub are_naturals : (xs : List ℤ) → All (λ x. pos 0 ≤ℤ x) xs → xs ≡ map pos (map unsigned_abs xs)
are_naturals [] h = refl
are_naturals (x ∷ xs) h =
    let here = one_natural x (h 0 x (omega arith)) in
    let rest = are_naturals xs (λ k d lt. h (suc k) d (omega (arith, lt))) in
    λ i. here i ∷ rest i

pub all_natural : (ns : List ℕ) → All (λ x. pos 0 ≤ℤ x) (map pos ns)
all_natural [] k d lt = absurd (omega arith)
all_natural (n ∷ ns) zero d lt = omega (arith, ints)
all_natural (n ∷ ns) (suc k) d lt = all_natural ns k d (omega (arith, lt))
