-- Zeros, one by one.
use Rattle.std.proofs.Common.{◌≡◌, ℕ, zero, suc, ◌+◌, pos, [], ◌∷◌, ◌++◌, refl, ap, ◌∙◌, arith}
use Rattle.linear_rows.specs.Solving.{zeros}

push_zero : (n : ℕ) → zeros n ++ pos 0 ∷ [] ≡ zeros (suc n)
push_zero zero = refl
push_zero (suc n) = ap (λ s. pos 0 ∷ s) (push_zero n)

pub zeros_more : (n : ℕ) → zeros n ++ pos 0 ∷ [] ≡ zeros (n + 1)
zeros_more n = let more : suc n ≡ n + 1 = omega arith in push_zero n ∙ ap zeros more
