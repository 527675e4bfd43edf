-- Size expressions have natural numbers.
use Rattle.std.proofs.Common.{◌≡◌, ℕ, zero, suc, ℤ, pos, ◌+ℤ◌, List, [], ◌∷◌, map, length, refl, ap, arith}
use Rattle.std.specs.Prelude.{All, ◌≤ℤ◌}
use Rattle.std.proofs.lemmas.Int.{ints}
use Rattle.exact128.specs.Sums.{dot}
use Rattle.termination_model.proofs.Naturals.{never_below}

nulls : ℕ → List ℕ
nulls zero = []
nulls (suc n) = 0 ∷ nulls n

length-nulls : (n : ℕ) → length (nulls n) ≡ n
unfolding nulls
length-nulls zero = refl
length-nulls (suc n) = ap suc (length-nulls n)

dot_nulls : (cs : List ℤ) (n : ℕ) → dot cs (map pos (nulls n)) ≡ pos 0
unfolding dot nulls
dot_nulls [] n = refl
dot_nulls (a ∷ cs) zero = refl
dot_nulls (a ∷ cs) (suc n) = let r = dot_nulls cs n in omega (arith, ints, r)

-- where a line of numbers is never below 0, each of its numbers is natural
each_natural : (b : ℤ) (cs : List ℤ) → ((w : List ℕ) → length w ≡ length cs → pos 0 ≤ℤ (b +ℤ dot cs (map pos w))) → All (λ x. pos 0 ≤ℤ x) cs
unfolding dot nulls
each_natural b [] h k d l = absurd (omega arith)
each_natural b (a ∷ cs) h zero d l =
    never_below b a (λ k. let e = h (k ∷ nulls (length cs)) (ap suc (length-nulls (length cs))) in let z = dot_nulls cs (length cs) in omega (arith, ints, e, z))
each_natural b (a ∷ cs) h (suc k) d l = each_natural b cs (λ w e. let m = h (0 ∷ w) (ap suc e) in omega (arith, ints, m)) k d (omega arith)

pub whole_natural : (e : List ℤ) (n : ℕ) → length e ≡ suc n → ((w : List ℕ) → length w ≡ n → pos 0 ≤ℤ dot e (pos 1 ∷ map pos w)) → All (λ x. pos 0 ≤ℤ x) e
unfolding dot nulls
whole_natural [] n l h k d m = absurd (omega arith)
whole_natural (b ∷ cs) n l h zero d m = let e = h (nulls n) (length-nulls n) in let z = dot_nulls cs n in omega (arith, ints, e, z)
whole_natural (b ∷ cs) n l h (suc k) d m = each_natural b cs (λ w e. let i = h w (omega arith) in omega (arith, ints, i)) k d (omega arith)
