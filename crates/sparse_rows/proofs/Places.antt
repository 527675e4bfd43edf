-- The first place of a list that passes a test.
use Rattle.std.proofs.Common.{◌≡◌, ℕ, zero, suc, List, [], ◌∷◌, ◌<◌, Bool, true, false, length, get_or, refl, ap, arith}
use Rattle.linear_rows.specs.Equation.{place_of}

pub place_first : {X : Type 0} (p : X → Bool) (xs : List X) (j : ℕ) (d : X) → j < length xs → ((i : ℕ) → i < j → p (get_or xs i d) ≡ false) → p (get_or xs j d) ≡ true → j ≡ place_of p xs
place_first p [] j d h n e = absurd (omega arith)
place_first p (x ∷ xs) zero d h n e = rw e refl
place_first p (x ∷ xs) (suc j) d h n e =
    let f = n 0 (omega arith) in
    rw f (ap suc (place_first p xs j d (omega arith) (λ i l. n (suc i) (omega arith)) e))

pub place_none : {X : Type 0} (p : X → Bool) (xs : List X) (d : X) → ((i : ℕ) → i < length xs → p (get_or xs i d) ≡ false) → length xs ≡ place_of p xs
place_none p [] d n = refl
place_none p (x ∷ xs) d n =
    let f = n 0 (omega arith) in
    rw f (ap suc (place_none p xs d (λ i l. n (suc i) (omega arith))))
