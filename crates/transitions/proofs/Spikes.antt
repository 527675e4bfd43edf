-- Lists that are 0 but at one place, and what holds of numbers because it holds however large the number there is.
use Rattle.std.proofs.Common.{◌≡◌, ℕ, zero, suc, ◌*◌, ◌≤◌, ℤ, pos, negsuc, neg_ℤ, ◌+ℤ◌, ◌*ℤ◌, ◌≤ℤ◌, List, [], ◌∷◌, map, length, refl, ap, arith}
use Rattle.std.specs.Prelude.{◌-ℤ◌}
use Rattle.std.proofs.lemmas.Int.{ints}
use Rattle.exact128.proofs.Rings.{rings}
use Rattle.exact128.specs.Sums.{dot, entry}
use Rattle.transitions.specs.Templates.{differences}

-- n numbers, all 0
abbrev pub nothing : ℕ → List ℕ
nothing zero = []
nothing (suc n) = 0 ∷ nothing n

-- n numbers, m at place j and else 0
abbrev pub spike : ℕ → ℕ → ℕ → List ℕ
spike zero j m = []
spike (suc n) zero m = m ∷ nothing n
spike (suc n) (suc j) m = 0 ∷ spike n j m

pub length_nothing : (n : ℕ) → length (nothing n) ≡ n
length_nothing zero = refl
length_nothing (suc n) = ap suc (length_nothing n)

pub length_spike : (n j m : ℕ) → length (spike n j m) ≡ n
length_spike zero j m = refl
length_spike (suc n) zero m = ap suc (length_nothing n)
length_spike (suc n) (suc j) m = ap suc (length_spike n j m)

pub dot_nothing : (n : ℕ) (xs : List ℤ) → dot (map pos (nothing n)) xs ≡ pos 0
unfolding dot
dot_nothing zero xs = refl
dot_nothing (suc n) [] = refl
dot_nothing (suc n) (x ∷ xs) = let rest = dot_nothing n xs in omega (arith, ints, rest)

pub dot_spike : (n j m : ℕ) (xs : List ℤ) → length xs ≡ n → dot (map pos (spike n j m)) xs ≡ pos m *ℤ entry xs j
unfolding dot
dot_spike zero j m [] l = omega (arith, ints)
dot_spike zero j m (x ∷ xs) l = absurd (omega arith)
dot_spike (suc n) j m [] l = absurd (omega arith)
dot_spike (suc n) zero m (x ∷ xs) l = let rest = dot_nothing n xs in omega (arith, ints, rest)
dot_spike (suc n) (suc j) m (x ∷ xs) l = let rest = dot_spike n j m xs (omega arith) in omega (arith, ints, rest)

-- the differences to nothing
pub dot_above : (xs : List ℤ) (cs : List ℕ) (n : ℕ) → length cs ≡ n → dot (differences cs (nothing n)) xs ≡ dot (map pos cs) xs
unfolding dot
dot_above xs [] n l = refl
dot_above xs (c ∷ cs) zero l = absurd (omega arith)
dot_above [] (c ∷ cs) (suc n) l = refl
dot_above (x ∷ xs) (c ∷ cs) (suc n) l =
    let rest = dot_above xs cs n (omega arith) in
    let here : (pos c -ℤ pos 0) ≡ pos c = omega (arith, ints) in
    λ i. (here i *ℤ x) +ℤ rest i

pub dot_under : (xs : List ℤ) (ds : List ℕ) (n : ℕ) → length ds ≡ n → dot (differences (nothing n) ds) xs ≡ neg_ℤ (dot (map pos ds) xs)
unfolding dot
dot_under xs [] zero l = refl
dot_under xs [] (suc n) l = absurd (omega arith)
dot_under xs (d ∷ ds) zero l = absurd (omega arith)
dot_under [] (d ∷ ds) (suc n) l = refl
dot_under (x ∷ xs) (d ∷ ds) (suc n) l =
    let rest = dot_under xs ds n (omega arith) in
    let here : (pos 0 -ℤ pos d) *ℤ x ≡ neg_ℤ (pos d *ℤ x) = simp rings (omega (arith, ints)) in
    omega (arith, ints, rest, here)

-- a number that stays below however often another one is added to it lets that be at most 0
pub never_passes : (b s : ℤ) → ((m : ℕ) → (b +ℤ pos m *ℤ s) ≤ℤ negsuc 0) → s ≤ℤ pos 0
never_passes (pos n) s h = absurd (let z = h 0 in omega (arith, ints, z))
never_passes (negsuc n) (pos zero) h = omega (arith, ints)
never_passes (negsuc n) (pos (suc s)) h = absurd (
    let z = h (suc n) in
    let e : pos (suc n) *ℤ pos (suc s) ≡ pos (suc n * suc s) = refl in
    let m : suc n ≤ suc n * suc s = grow n s in
    omega (arith, ints, z, e, m))
  where
    grow : (n s : ℕ) → suc n ≤ suc n * suc s
    grow n s = omega arith
never_passes (negsuc n) (negsuc s) h = omega (arith, ints)
