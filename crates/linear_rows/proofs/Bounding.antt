-- Among rows with a positive number in a column, one bounds it best.
use Rattle.std.proofs.Common.{◌≡◌, ℕ, zero, suc, ℤ, pos, List, [], ◌∷◌, ◌/◌, ◌<◌, ◌+ℤ◌, ◌*ℤ◌, ◌-ℤ◌, map, length, refl, sym, ap, ◌∙◌, arith, inl, inr}
use Rattle.std.specs.Prelude.{◌≤ℤ◌, ◌<ℤ◌, All, unsigned_abs}
use Rattle.std.proofs.lemmas.Int.{ints, by_lt_z}
use Rattle.std.proofs.lemmas.List.Elements.{All-cons, All-head, All-tail, All-nil}
use Rattle.std.proofs.Math.Nat.{mul-div_cancel'}
use lib.ListN.{get_or}
use Rattle.exact128.specs.Gcd.{gcd}
use Rattle.exact128.proofs.Rings.{rings, mul_nonneg, cross_trans}
use Rattle.exact128.proofs.Gcds.{gcd_is}
use Rattle.exact128.specs.Sums.{entry, dot}
use Rattle.linear_rows.specs.Elimination.{crossed}
use Rattle.linear_rows.specs.RowSums.{scaled, added}
use Rattle.linear_rows.specs.Members.{In}
use Rattle.linear_rows.proofs.Members.{from_All}
use Rattle.linear_rows.proofs.Projection.{value, rest, put, Bounds, value-put}

-- ---- the row that bounds best
abbrev pub Rises : ℕ → List ℤ → Type 0
Rises k r = pos 1 ≤ℤ entry r k

pub record Best (k : ℕ) (ps : List ℕ) (rows : List (List ℤ)) : Type 0 where
  pub row : List ℤ
  pub here : In row rows
  pub best : All (Bounds k ps row) rows

pub best_of : (k : ℕ) (ps : List ℕ) (x : List ℤ) (xs : List (List ℤ)) → All (Rises k) (x ∷ xs) → Best k ps (x ∷ xs)
best_of k ps x [] h = record {
  row = x;
  here = inl refl;
  best = All-cons (Bounds k ps x) x [] (omega (arith, ints)) (All-nil (Bounds k ps x));
}
best_of k ps x (y ∷ ys) h =
    let b = best_of k ps y ys (All-tail (Rises k) x (y ∷ ys) h) in
    let r = b.row in
    let rx : Rises k x = All-head (Rises k) x (y ∷ ys) h in
    let rr : Rises k r = from_All (Rises k) (y ∷ ys) r (All-tail (Rises k) x (y ∷ ys) h) b.here in
    by_lt_z (entry r k *ℤ rest k ps x) (entry x k *ℤ rest k ps r)
    (λ (lt : (entry r k *ℤ rest k ps x) <ℤ (entry x k *ℤ rest k ps r)). record {
      row = x;
      here = inl refl;
      best = All-cons (Bounds k ps x) x (y ∷ ys) (omega (arith, ints))
          (λ j d l. cross_trans (entry x k) (entry r k) (entry (get_or (y ∷ ys) j d) k) _ _ _ rx rr (h (suc j) d (omega arith)) (omega (arith, ints)) (b.best j d l));
    })
    (λ (le : (entry x k *ℤ rest k ps r) ≤ℤ (entry r k *ℤ rest k ps x)). record {
      row = r;
      here = inr b.here;
      best = All-cons (Bounds k ps r) x (y ∷ ys) le b.best;
    })

-- ---- two rows crossed
pub value-scaled : (m : ℤ) (xs ps : List ℤ) → dot (scaled m xs) ps ≡ m *ℤ dot xs ps
unfolding dot
value-scaled m [] ps = omega (arith, ints)
value-scaled m (x ∷ xs) [] = omega (arith, ints)
value-scaled m (x ∷ xs) (p ∷ ps) = rw (value-scaled m xs ps) (simp rings (omega (arith, ints)))

pub value-added : (xs ys ps : List ℤ) → dot (added xs ys) ps ≡ dot xs ps +ℤ dot ys ps
unfolding dot
value-added [] ys ps = omega (arith, ints)
value-added (x ∷ xs) [] ps = omega (arith, ints)
value-added (x ∷ xs) (y ∷ ys) [] = refl
value-added (x ∷ xs) (y ∷ ys) (p ∷ ps) = rw (value-added xs ys ps) (simp rings (omega (arith, ints)))

-- what the crossed row is worth, times the divisor: r_k * s - s_k * r
pub crossed_value : (k : ℕ) (r s ps : List ℤ) → pos 1 ≤ℤ entry r k → entry s k <ℤ pos 0 →
    pos (gcd (unsigned_abs (entry r k)) (unsigned_abs (entry s k))) *ℤ dot (crossed k r s) ps ≡ entry r k *ℤ dot s ps -ℤ entry s k *ℤ dot r ps
unfolding crossed
crossed_value k r s ps pr ns =
    let a = unsigned_abs (entry r k) in
    let b = unsigned_abs (entry s k) in
    let g = gcd a b in
    let is = gcd_is a b in
    let ea : pos g *ℤ pos (a / g) ≡ entry r k = omega (arith, ints, mul-div_cancel' g is.0) in
    let eb : pos g *ℤ pos (b / g) ≡ pos 0 -ℤ entry s k = omega (arith, ints, mul-div_cancel' g is.1) in
    let split : dot (crossed k r s) ps ≡ pos (b / g) *ℤ dot r ps +ℤ pos (a / g) *ℤ dot s ps =
    rw (value-added (scaled (pos (b / g)) r) (scaled (pos (a / g)) s) ps, value-scaled (pos (b / g)) r ps, value-scaled (pos (a / g)) s ps) refl in
    let all : pos g *ℤ (pos (b / g) *ℤ dot r ps +ℤ pos (a / g) *ℤ dot s ps) ≡ (pos g *ℤ pos (b / g)) *ℤ dot r ps +ℤ (pos g *ℤ pos (a / g)) *ℤ dot s ps = simp rings (omega (arith, ints)) in
    let turned : (pos 0 -ℤ entry s k) *ℤ dot r ps ≡ pos 0 -ℤ entry s k *ℤ dot r ps = simp rings (omega (arith, ints)) in
    rw split (all ∙ rw (ea, eb, turned) (omega (arith, ints)))

-- it holds where both hold
pub crossed_holds : (k : ℕ) (r s : List ℤ) (ps : List ℕ) → pos 1 ≤ℤ entry r k → entry s k <ℤ pos 0 → pos 0 ≤ℤ value r ps → pos 0 ≤ℤ value s ps → pos 0 ≤ℤ value (crossed k r s) ps
unfolding crossed
crossed_holds k r s ps pr ns hr hs =
    let a = unsigned_abs (entry r k) in
    let b = unsigned_abs (entry s k) in
    let g = gcd a b in
    let xs = map pos ps in
    let split : dot (crossed k r s) xs ≡ pos (b / g) *ℤ dot r xs +ℤ pos (a / g) *ℤ dot s xs =
    rw (value-added (scaled (pos (b / g)) r) (scaled (pos (a / g)) s) xs, value-scaled (pos (b / g)) r xs, value-scaled (pos (a / g)) s xs) refl in
    let one = mul_nonneg (pos (b / g)) (dot r xs) (omega (arith, ints)) hr in
    let two = mul_nonneg (pos (a / g)) (dot s xs) (omega (arith, ints)) hs in
    omega (arith, ints, split)

pub put-same : (ps : List ℕ) (k : ℕ) → k < length ps → (v : ℕ) × (put ps k v ≡ ps)
put-same [] k h = absurd (omega arith)
put-same (p ∷ ps) zero h = (p, refl)
put-same (p ∷ ps) (suc k) h = let e = put-same ps k (omega arith) in (e.0, ap (λ l. p ∷ l) e.1)

pub split_at : (row : List ℤ) (ps : List ℕ) (k v : ℕ) → k < length ps → put ps k v ≡ ps → value row ps ≡ entry row k *ℤ pos v +ℤ rest k ps row
split_at row ps k v h e = ap (λ l. value row l) (sym e) ∙ value-put row ps k v h

-- where it holds, r bounds the column at least as well as s leaves room
pub crossed_bounds : (k : ℕ) (r s : List ℤ) (ps : List ℕ) → k < length ps → pos 1 ≤ℤ entry r k → entry s k <ℤ pos 0 → pos 0 ≤ℤ value (crossed k r s) ps → Bounds k ps r s
crossed_bounds k r s ps lt pr ns h =
    let g = gcd (unsigned_abs (entry r k)) (unsigned_abs (entry s k)) in
    let at = put-same ps k lt in
    let x = pos at.0 in
    let is = crossed_value k r s (map pos ps) pr ns in
    let up = mul_nonneg (pos g) (value (crossed k r s) ps) (omega (arith, ints)) h in
    let er = split_at r ps k at.0 lt at.1 in
    let es = split_at s ps k at.0 lt at.1 in
    let gone : entry r k *ℤ (entry s k *ℤ x +ℤ rest k ps s) -ℤ entry s k *ℤ (entry r k *ℤ x +ℤ rest k ps r) ≡ entry r k *ℤ rest k ps s -ℤ entry s k *ℤ rest k ps r = simp rings (omega (arith, ints)) in
    let low = rw (is, es, er, gone) at up in
    omega (arith, ints)
