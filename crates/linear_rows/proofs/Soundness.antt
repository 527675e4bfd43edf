-- What rows prove holds wherever they hold.
use Rattle.std.proofs.Common.{◌≡◌, ℕ, zero, suc, ℤ, pos, negsuc, List, [], ◌∷◌, ◌<◌, ◌+ℤ◌, ◌*ℤ◌, map, length, refl, ◌∙◌, arith}
use Rattle.std.specs.Prelude.{◌≤ℤ◌, All}
use Rattle.std.proofs.lemmas.Int.{ints}
use Rattle.exact128.proofs.Rings.{rings, mul_nonneg, mul_mono, nonneg_factor}
use Rattle.exact128.specs.Sums.{entry, dot}
use Rattle.linear_rows.specs.Rows.{column, Holds, AllHold, HoldsOn, AreEmpty}
use Rattle.linear_rows.specs.Proves.{rest_number, Proves}

-- a row times a number, and the sum of two rows
abbrev scaled : ℤ → List ℤ → List ℤ
scaled m xs = map (λ x. m *ℤ x) xs

abbrev added : List ℤ → List ℤ → List ℤ
added [] ys = ys
added (x ∷ xs) [] = x ∷ xs
added (x ∷ xs) (y ∷ ys) = (x +ℤ y) ∷ added xs ys

-- the sum of the multiplied rows
abbrev combined : List ℤ → List (List ℤ) → List ℤ
combined [] rows = []
combined (m ∷ ms) [] = []
combined (m ∷ ms) (row ∷ rows) = added (scaled m row) (combined ms rows)

dot-scaled : (m : ℤ) (xs ps : List ℤ) → dot (scaled m xs) ps ≡ m *ℤ dot xs ps
unfolding dot
dot-scaled m [] ps = omega (arith, ints)
dot-scaled m (x ∷ xs) [] = omega (arith, ints)
dot-scaled m (x ∷ xs) (p ∷ ps) = rw (dot-scaled m xs ps) (simp rings (omega (arith, ints)))

dot-added : (xs ys ps : List ℤ) → dot (added xs ys) ps ≡ dot xs ps +ℤ dot ys ps
unfolding dot
dot-added [] ys ps = omega (arith, ints)
dot-added (x ∷ xs) [] ps = omega (arith, ints)
dot-added (x ∷ xs) (y ∷ ys) [] = refl
dot-added (x ∷ xs) (y ∷ ys) (p ∷ ps) = rw (dot-added xs ys ps) (simp rings (omega (arith, ints)))

pub entry-scaled : (m : ℤ) (xs : List ℤ) (k : ℕ) → entry (scaled m xs) k ≡ m *ℤ entry xs k
entry-scaled m [] k = omega (arith, ints)
entry-scaled m (x ∷ xs) zero = refl
entry-scaled m (x ∷ xs) (suc k) = entry-scaled m xs k

pub entry-added : (xs ys : List ℤ) (k : ℕ) → entry (added xs ys) k ≡ entry xs k +ℤ entry ys k
entry-added [] ys k = omega (arith, ints)
entry-added (x ∷ xs) [] k = omega (arith, ints)
entry-added (x ∷ xs) (y ∷ ys) zero = refl
entry-added (x ∷ xs) (y ∷ ys) (suc k) = entry-added xs ys k

entry-combined : (ms : List ℤ) (rows : List (List ℤ)) (k : ℕ) → entry (combined ms rows) k ≡ dot ms (column rows k)
unfolding dot
entry-combined [] rows k = refl
entry-combined (m ∷ ms) [] k = refl
entry-combined (m ∷ ms) (row ∷ rows) k = entry-added (scaled m row) (combined ms rows) k ∙ rw (entry-scaled m row k, entry-combined ms rows k) refl

-- a row below another has the lesser value at each point
dot-le : (xs ys : List ℤ) (ps : List ℕ) → ((k : ℕ) → k < length ps → entry xs k ≤ℤ entry ys k) → dot xs (map pos ps) ≤ℤ dot ys (map pos ps)
unfolding dot
dot-le [] [] ps h = omega (arith, ints)
dot-le [] (y ∷ ys) [] h = omega (arith, ints)
dot-le [] (y ∷ ys) (p ∷ ps) h =
    let here = mul_mono (pos 0) y p (h 0 (omega arith)) in
    let rest = dot-le [] ys ps (λ k l. h (suc k) (omega arith)) in
    omega (arith, ints)
dot-le (x ∷ xs) [] [] h = omega (arith, ints)
dot-le (x ∷ xs) [] (p ∷ ps) h =
    let here = mul_mono x (pos 0) p (h 0 (omega arith)) in
    let rest = dot-le xs [] ps (λ k l. h (suc k) (omega arith)) in
    omega (arith, ints)
dot-le (x ∷ xs) (y ∷ ys) [] h = omega (arith, ints)
dot-le (x ∷ xs) (y ∷ ys) (p ∷ ps) h =
    let here = mul_mono x y p (h 0 (omega arith)) in
    let rest = dot-le xs ys ps (λ k l. h (suc k) (omega arith)) in
    omega (arith, ints)

-- multiplied rows that hold have a sum that holds
combined_holds : (ms : List ℤ) (rows : List (List ℤ)) (t : ℕ) (w : List ℕ) → All (λ m. pos 0 ≤ℤ m) ms → AllHold rows t w → Holds (combined ms rows) t w
unfolding dot
combined_holds [] rows t w h k = omega (arith, ints)
combined_holds (m ∷ ms) [] t w h k = omega (arith, ints)
combined_holds (m ∷ ms) (row ∷ rows) t w h k =
    let ps = pos t ∷ map pos w in
    let first = mul_nonneg m (dot row ps) (h 0 m (omega arith)) (k 0 row (omega arith)) in
    let rest = combined_holds ms rows t w (λ j d l. h (suc j) d (omega arith)) (λ j d l. k (suc j) d (omega arith)) in
    rw (dot-added (scaled m row) (combined ms rows) ps, dot-scaled m row ps) (omega (arith, ints))

pub law_holds : (rows : List (List ℤ)) (ms target : List ℤ) (d : ℕ) → All (λ m. pos 0 ≤ℤ m) ms → Proves rows ms target (pos (suc d)) → HoldsOn (length target) rows target
law_holds rows ms target d hm hp t w ht hw hr =
    let below = dot-le (combined ms rows) (scaled (pos (suc d)) target) (t ∷ w)
    (λ k l. let lt : k < length target = omega arith in let h = hp k lt in
    rw (entry-combined ms rows k, entry-scaled (pos (suc d)) target k) (omega (arith, ints))) in
    let above = combined_holds ms rows t w hm hr in
    let all = rw (dot-scaled (pos (suc d)) target (map pos (t ∷ w))) at below in
    nonneg_factor d (dot target (map pos (t ∷ w))) (omega (arith, ints))

minus_one : (rows : List (List ℤ)) (ms target : List ℤ) (k : ℕ) → pos 0 ≤ℤ rest_number rows ms target (pos 0) k → dot ms (column rows k) ≤ℤ entry (negsuc 0 ∷ []) k
minus_one rows ms target zero h = omega (arith, ints)
minus_one rows ms target (suc k) h = omega (arith, ints)

pub law_empty : (rows : List (List ℤ)) (ms target : List ℤ) → All (λ m. pos 0 ≤ℤ m) ms → Proves rows ms target (pos 0) → AreEmpty (length target) rows
unfolding dot
law_empty rows ms target hm hp t w ht hw hr =
    let below = dot-le (combined ms rows) (negsuc 0 ∷ []) (t ∷ w)
    (λ k l. let lt : k < length target = omega arith in let h = minus_one rows ms target k (hp k lt) in
    rw (entry-combined ms rows k) h) in
    let above = combined_holds ms rows t w hm hr in
    omega (arith, ints)
