-- The numbers of a size are natural.
use Rattle.std.proofs.Common.{◌≡◌, ℕ, zero, suc, ◌+◌, ◌<◌, ◌==◌, ℤ, pos, negsuc, ◌+ℤ◌, ◌*ℤ◌, ◌≤ℤ◌, true, false, if◌then◌else◌, List, [], ◌∷◌, refl, sym, subst, arith}
use Rattle.std.proofs.lemmas.Int.{ints}
use Rattle.std.proofs.lemmas.Bool.Decides.{nat_tests}
use lib.IntN.{*ℤ_comm}
use Rattle.exact128.specs.Sums.{entry}
use Rattle.term_size.specs.Norm.{value_of, weighted}
use Rattle.termination_model.specs.mappings.Ready.{SizesAreNatural}

abbrev only : ℕ → ℕ → ℕ → ℕ
only i n x = if x == i then n else 0

weighted_none : (k : ℕ) (cs : List ℤ) → weighted (λ _. 0) k cs ≡ pos 0
weighted_none k [] = refl
weighted_none k (c ∷ cs) = let rest = weighted_none (suc k) cs in omega (arith, ints, rest)

weighted_past : (i n k : ℕ) (cs : List ℤ) → i < k → weighted (only i n) k cs ≡ pos 0
weighted_past i n k [] l = refl
weighted_past i n k (c ∷ cs) l =
    let apart : (k == i) ≡ false = grind (arith, nat_tests) in
    let rest = weighted_past i n (suc k) cs (omega arith) in
    rw apart (omega (arith, ints, rest))

weighted_only : (n i k j : ℕ) (cs : List ℤ) → i ≡ k + j → weighted (only i n) k cs ≡ pos n *ℤ entry cs j
weighted_only n i k j [] e = omega (arith, ints)
weighted_only n i k zero (c ∷ cs) e =
    let same : (k == i) ≡ true = grind (arith, nat_tests) in
    let rest = weighted_past i n (suc k) cs (omega arith) in
    let turned = *ℤ_comm c (pos n) in
    rw same (omega (arith, ints, rest, turned))
weighted_only n i k (suc j) (c ∷ cs) e =
    let apart : (k == i) ≡ false = grind (arith, nat_tests) in
    let rest = weighted_only n i (suc k) j cs (omega arith) in
    rw apart (omega (arith, ints, rest))

pub never_below : (a b : ℤ) → ((k : ℕ) → pos 0 ≤ℤ (a +ℤ pos k *ℤ b)) → pos 0 ≤ℤ b
never_below a (pos n) h = omega (arith, ints)
never_below (pos a) (negsuc n) h = absurd (let l = h (suc a) in omega (arith, ints))
never_below (negsuc a) (negsuc n) h = absurd (let l = h 0 in omega (arith, ints))

naturals : (row : List ℤ) → ((s : ℕ → ℕ) → pos 0 ≤ℤ value_of row s) → (x : ℕ) → pos 0 ≤ℤ entry row x
naturals [] h x = omega (arith, ints)
naturals (b ∷ cs) h zero = let v = h (λ _. 0) in let w = weighted_none 0 cs in omega (arith, ints, v, w)
naturals (b ∷ cs) h (suc j) = never_below b (entry cs j) (λ k. let v = h (only j k) in let w = weighted_only k j 0 j cs (omega arith) in subst (λ (z : ℤ). pos 0 ≤ℤ (b +ℤ z)) w v)

pub sizes_are_natural : SizesAreNatural
sizes_are_natural size truth expression norm vars t below =
    naturals (expression vars t) (λ s. subst (λ (z : ℤ). pos 0 ≤ℤ z) (sym (norm.value vars s t below)) (omega (arith, ints)))
