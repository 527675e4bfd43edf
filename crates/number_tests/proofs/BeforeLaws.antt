-- How much the items before a place count together.
use Rattle.std.proofs.Common.{◌≡◌, ℕ, zero, suc, ◌+◌, List, [], ◌∷◌, slice_get, Some, refl, ap, ◌∙◌, arith}
use Rattle.number_tests.specs.Failing.{before}

-- none before the first
pub before_first : {X : Type 0} → (count : X → ℕ) (xs : List X) → before count xs 0 ≡ 0
before_first count [] = refl
before_first count (x ∷ xs) = refl

next : {X : Type 0} → (count : X → ℕ) (xs : List X) (n : ℕ) (x : X) → slice_get xs n ≡ Some x → before count xs (suc n) ≡ before count xs n + count x
next count [] n x e = cc
next count (y ∷ xs) zero x e =
    let is : y ≡ x = cc in
    let same : count y ≡ count x = ap count is in
    omega (arith, same, before_first count xs)
next count (y ∷ xs) (suc n) x e = omega (arith, next count xs n x e)

-- one item more
pub before_more : {X : Type 0} → (count : X → ℕ) (xs : List X) (n : ℕ) (x : X) → slice_get xs n ≡ Some x → before count xs (n + 1) ≡ before count xs n + count x
before_more count xs n x e = let more : n + 1 ≡ suc n = omega arith in ap (before count xs) more ∙ next count xs n x e
