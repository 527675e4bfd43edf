-- The lists of numbers from which targets are formed, an element at a time.
use Rattle.std.proofs.Common.{rules, ◌≡◌, ℕ, zero, suc, ◌+◌, ℤ, pos, neg_ℤ, ◌-ℤ◌, ◌≤ℤ◌, List, [], ◌∷◌, ◌++◌, map, take, slice_get, Some, ap, sym, ◌∙◌, arith, FitsSigned}
use Rattle.std.specs.Int.{w128}
use Rattle.termination_model.proofs.Lists.{append_assoc, map_push, taken_more}
use Rattle.number_tests.specs.Targets.{joined}

pub joined_more : (xs ys : List (List ℤ)) (n : ℕ) (x y : List ℤ) → slice_get xs n ≡ Some x → slice_get ys n ≡ Some y
    → joined (take (n + 1) xs) (take (n + 1) ys) ≡ joined (take n xs) (take n ys) ++ (x ++ y) ∷ []
joined_more [] ys n x y p q = cc
joined_more (a ∷ xs) [] n x y p q = cc
joined_more (a ∷ xs) (b ∷ ys) zero x y p q = let same : a ≡ x = cc in let other : b ≡ y = cc in λ i. (same i ++ other i) ∷ []
joined_more (a ∷ xs) (b ∷ ys) (suc n) x y p q =
    let rest = joined_more xs ys n x y p q in
    let more : suc n + 1 ≡ suc (n + 1) = omega arith in
    rw more (ap (λ s. (a ++ b) ∷ s) rest)

pub weights_more : (hs : List ℤ) (w : ℤ) (cs : List ℤ) (n : ℕ) (x : ℤ) → slice_get cs n ≡ Some x
    → (hs ++ w ∷ map neg_ℤ (take n cs)) ++ neg_ℤ x ∷ [] ≡ hs ++ w ∷ map neg_ℤ (take (n + 1) cs)
weights_more hs w cs n x e =
    append_assoc hs (w ∷ map neg_ℤ (take n cs)) (neg_ℤ x ∷ [])
    ∙ ap (λ s. hs ++ w ∷ s) (sym (map_push neg_ℤ (take n cs) x) ∙ ap (map neg_ℤ) (sym (taken_more cs n x e)))

-- a natural number has a negation in 128 bits
pub negation_fits : (x : ℤ) → pos 0 ≤ℤ x → FitsSigned w128 x → FitsSigned w128 (pos 0 -ℤ x)
negation_fits x n f = search rules
