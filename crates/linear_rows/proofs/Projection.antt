-- A point at which the rows that are left hold leads to one at which all rows hold.
use Rattle.std.proofs.Common.{◌≡◌, ℕ, zero, suc, ℤ, pos, List, [], ◌∷◌, ◌*◌, ◌<◌, ◌+ℤ◌, ◌*ℤ◌, ◌-ℤ◌, map, length, refl, ap, ◌∙◌, arith}
use Rattle.std.specs.Prelude.{◌≤ℤ◌, All, unsigned_abs}
use Rattle.std.proofs.lemmas.Int.{ints}
use Rattle.std.proofs.lemmas.List.Elements.{All-weaker}
use Rattle.exact128.proofs.Rings.{rings}
use Rattle.exact128.specs.Sums.{entry, dot}

-- a list with another number at a place, and all of its numbers times m
abbrev pub put : List ℕ → ℕ → ℕ → List ℕ
put [] k v = []
put (p ∷ ps) zero v = v ∷ ps
put (p ∷ ps) (suc k) v = p ∷ put ps k v

abbrev pub times : ℕ → List ℕ → List ℕ
times m ps = map (λ p. m * p) ps

abbrev pub value : List ℤ → List ℕ → ℤ
value row ps = dot row (map pos ps)

-- the value of a row without what column k adds
abbrev pub rest : ℕ → List ℕ → List ℤ → ℤ
rest k ps row = value row (put ps k 0)

pub value-put : (row : List ℤ) (ps : List ℕ) (k v : ℕ) → k < length ps → value row (put ps k v) ≡ entry row k *ℤ pos v +ℤ rest k ps row
unfolding dot
value-put [] ps k v h = omega (arith, ints)
value-put (a ∷ row) [] k v h = absurd (omega arith)
value-put (a ∷ row) (p ∷ ps) zero v h = omega (arith, ints)
value-put (a ∷ row) (p ∷ ps) (suc k) v h = rw (value-put row ps k v (omega arith)) (omega (arith, ints))

pub value-times : (row : List ℤ) (ps : List ℕ) (m : ℕ) → value row (times m ps) ≡ pos m *ℤ value row ps
unfolding dot
value-times [] ps m = omega (arith, ints)
value-times (a ∷ row) [] m = omega (arith, ints)
value-times (a ∷ row) (p ∷ ps) m = rw (value-times row ps m) (simp rings (omega (arith, ints)))

pub put-times : (ps : List ℕ) (k m : ℕ) → put (times m ps) k 0 ≡ times m (put ps k 0)
put-times [] k m = refl
put-times (p ∷ ps) zero m = ap (λ n. n ∷ times m ps) (omega arith)
put-times (p ∷ ps) (suc k) m = ap (λ l. m * p ∷ l) (put-times ps k m)

pub length-times : (ps : List ℕ) (m : ℕ) → length (times m ps) ≡ length ps
length-times [] m = refl
length-times (p ∷ ps) m = ap suc (length-times ps m)

-- the row r bounds column k from below at least as well as the row s, or leaves s room
abbrev pub Bounds : ℕ → List ℕ → List ℤ → List ℤ → Type 0
Bounds k ps r s = (entry s k *ℤ rest k ps r) ≤ℤ (entry r k *ℤ rest k ps s)

at_new_point : (k : ℕ) (ps : List ℕ) (r s : List ℤ) → k < length ps → pos 1 ≤ℤ entry r k → rest k ps r ≤ℤ pos 0 → Bounds k ps r s →
    pos 0 ≤ℤ value s (put (times (unsigned_abs (entry r k)) ps) k (unsigned_abs (rest k ps r)))
at_new_point k ps r s h p q b =
    let m = unsigned_abs (entry r k) in
    let v = unsigned_abs (rest k ps r) in
    let em : pos m ≡ entry r k = omega (arith, ints) in
    let ev : pos v ≡ pos 0 -ℤ rest k ps r = omega (arith, ints) in
    let lt : k < length (times m ps) = omega (arith, length-times ps m) in
    let split = value-put s (times m ps) k v lt in
    let low : rest k (times m ps) s ≡ pos m *ℤ rest k ps s = ap (λ l. value s l) (put-times ps k m) ∙ value-times s (put ps k 0) m in
    let turned : entry s k *ℤ (pos 0 -ℤ rest k ps r) ≡ pos 0 -ℤ entry s k *ℤ rest k ps r = simp rings (omega (arith, ints)) in
    rw (split, low, ev, em, turned) (omega (arith, ints))

-- all rows hold at the new point
pub projected : (k : ℕ) (ps : List ℕ) (r : List ℤ) (rows : List (List ℤ)) → k < length ps → pos 1 ≤ℤ entry r k → rest k ps r ≤ℤ pos 0 → All (Bounds k ps r) rows →
    All (λ s. pos 0 ≤ℤ value s (put (times (unsigned_abs (entry r k)) ps) k (unsigned_abs (rest k ps r)))) rows
projected k ps r rows h p q b = All-weaker (Bounds k ps r) _ (λ s. at_new_point k ps r s h p q) rows b
