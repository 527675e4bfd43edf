-- One step with no equation: a row without the variable holds on what is left exactly where it holds on the rows.
use Rattle.std.proofs.Common.{◌≡◌, ◌≢◌, ℕ, zero, suc, ℤ, pos, negsuc, List, [], ◌∷◌, ◌+◌, ◌*◌, ◌<◌, ◌≤◌, ◌*ℤ◌, true, map, length, refl, subst, ap, ◌∙◌, arith, inl, inr, ◌⊎◌}
use Rattle.std.specs.Prelude.{◌≤ℤ◌, ◌<ℤ◌, All, unsigned_abs}
use Rattle.std.proofs.lemmas.Int.{ints}
use Rattle.std.proofs.Math.Nat.{mul-pos}
use lib.IntN.{zero-*ℤ, +ℤ_idl}
use Rattle.exact128.proofs.Rings.{mul_nonneg, mul_mono, mul_le, mul_cancel}
use Rattle.exact128.specs.Sums.{entry, dot}
use Rattle.linear_rows.specs.Rows.{Holds, AllHold, HoldsOn}
use Rattle.linear_rows.specs.Elimination.{is_positive, is_negative, is_zero, rising, falling, without, crossed, crossings, crossed_out}
use Rattle.linear_rows.proofs.Projection.{value, rest, put, times, Bounds, value-put, value-times, length-times, put-times, projected}
use Rattle.linear_rows.proofs.Bounding.{Rises, Best, best_of, put-same, split_at, crossed_holds, crossed_bounds}
use Rattle.linear_rows.specs.Step.{Floors}
use Rattle.linear_rows.specs.Members.{In}
use Rattle.linear_rows.proofs.Members.{in-filter, of-filter, in-left, in-right, of-append, in-map, of-map, in-flat_map, of-flat_map, from_All, to_All}

pub positive_is : (z : ℤ) → is_positive z ≡ true → pos 1 ≤ℤ z
positive_is z e = omega (arith, ints)

pub negative_is : (z : ℤ) → is_negative z ≡ true → z <ℤ pos 0
negative_is z e = omega (arith, ints)

pub zero_is : (z : ℤ) → is_zero z ≡ true → z ≡ pos 0
zero_is (pos zero) e = refl
zero_is (pos (suc n)) e = cc
zero_is (negsuc n) e = cc

abbrev pub Sign : ℤ → Type 0
Sign z = (is_positive z ≡ true) ⊎ ((is_negative z ≡ true) ⊎ (is_zero z ≡ true))

pub sign_of : (z : ℤ) → Sign z
sign_of (pos zero) = inr (inr refl)
sign_of (pos (suc n)) = inl (search (arith, ints))
sign_of (negsuc n) = inr (inl (search (arith, ints)))

-- the pair of a rising and a falling row is there
in-crossings : (k : ℕ) (rows : List (List ℤ)) (r s : List ℤ) → In r (rising k rows) → In s (falling k rows) → In (crossed k r s) (crossings k rows)
unfolding crossings
in-crossings k rows r s h g = in-flat_map (λ r. map (λ s. crossed k r s) (falling k rows)) (rising k rows) r (crossed k r s) h (in-map (λ s. crossed k r s) (falling k rows) s g)

-- each row that is left holds where the rows hold
pub left_hold : (k : ℕ) (rows : List (List ℤ)) (t : ℕ) (w : List ℕ) → AllHold rows t w → AllHold (crossed_out k rows) t w
unfolding crossings
left_hold k rows t w h =
    let Here : List ℤ → Type 0 = λ r. Holds r t w in
    to_All Here (crossed_out k rows) (λ q i.
    elim (of-append (without k rows) (crossings k rows) q i) [
      | inl a ↦ from_All Here rows q h (of-filter _ rows q a).0
      | inr b ↦
          let x = of-flat_map (λ r. map (λ s. crossed k r s) (falling k rows)) (rising k rows) q b in
          let r = x.0 in
          let up = of-filter (λ r. is_positive (entry r k)) rows r x.1 in
          let y = of-map (λ s. crossed k r s) (falling k rows) q x.2 in
          let s = y.0 in
          let down = of-filter (λ s. is_negative (entry s k)) rows s y.1 in
          subst Here y.2 (crossed_holds k r s (t ∷ w) (positive_is _ up.1) (negative_is _ down.1) (from_All Here rows r h up.0) (from_All Here rows s h down.0))
    ])

-- ---- the other direction
-- the value of a row with 0 in the column does not depend on it
pub same_rest : (row : List ℤ) (ps : List ℕ) (k : ℕ) → k < length ps → entry row k ≡ pos 0 → value row ps ≡ rest k ps row
same_rest row ps k lt e =
    let at = put-same ps k lt in
    let split = split_at row ps k at.0 lt at.1 in
    let gone : entry row k *ℤ pos at.0 ≡ pos 0 = rw e (zero-*ℤ (pos at.0)) in
    split ∙ rw gone (+ℤ_idl (rest k ps row))

pub is_positive-from : (z : ℤ) → pos 1 ≤ℤ z → is_positive z ≡ true
is_positive-from z h = search (arith, ints)

low_from : (a l m x : ℤ) → pos 1 ≤ℤ a → pos 1 ≤ℤ m → (a *ℤ l) ≤ℤ (m *ℤ x) → x ≤ℤ pos 0 → l ≤ℤ pos 0
low_from a l m x pa pm h low =
    let k = mul_le m x (pos 0) (omega (arith, ints)) low in
    mul_cancel a l (pos 0) pa (omega (arith, ints))

value_low : (row : List ℤ) (ps : List ℕ) → ((j : ℕ) → j < length ps → entry row j ≤ℤ pos 0) → value row ps ≤ℤ pos 0
unfolding dot
value_low [] ps h = omega (arith, ints)
value_low (a ∷ row) [] h = omega (arith, ints)
value_low (a ∷ row) (p ∷ ps) h =
    let here = mul_mono a (pos 0) p (h 0 (omega arith)) in
    let later = value_low row ps (λ j l. h (suc j) (omega arith)) in
    omega (arith, ints)

rest_low : (row : List ℤ) (ps : List ℕ) (k : ℕ) → ((j : ℕ) → j < length ps → j ≢ k → entry row j ≤ℤ pos 0) → rest k ps row ≤ℤ pos 0
unfolding dot
rest_low [] ps k h = omega (arith, ints)
rest_low (a ∷ row) [] k h = omega (arith, ints)
rest_low (a ∷ row) (p ∷ ps) zero h =
    let later = value_low row ps (λ j l. h (suc j) (omega arith) (omega arith)) in
    omega (arith, ints)
rest_low (a ∷ row) (p ∷ ps) (suc k) h =
    let here = mul_mono a (pos 0) p (h 0 (omega arith) (omega arith)) in
    let later = rest_low row ps k (λ j l n. h (suc j) (omega arith) (omega arith)) in
    omega (arith, ints)

best_in : (k : ℕ) (ps : List ℕ) (r : List ℤ) (rows : List (List ℤ)) → In r rows → All (Rises k) rows → Best k ps rows
best_in k ps r [] h a = absurd h
best_in k ps r (x ∷ xs) h a = best_of k ps x xs a

pub length-put : (ps : List ℕ) (k v : ℕ) → length (put ps k v) ≡ length ps
length-put [] k v = refl
length-put (p ∷ ps) zero v = refl
length-put (p ∷ ps) (suc k) v = ap suc (length-put ps k v)

-- a row without the variable that holds leaves every row room
pub zero_bounds : (k : ℕ) (r s : List ℤ) (ps : List ℕ) → k < length ps → pos 1 ≤ℤ entry r k → entry s k ≡ pos 0 → pos 0 ≤ℤ value s ps → Bounds k ps r s
zero_bounds k r s ps lt up ez hs =
    let same = same_rest s ps k lt ez in
    let low : pos 0 ≤ℤ rest k ps s = rw same at hs in
    let prod = mul_nonneg (entry r k) (rest k ps s) (omega (arith, ints)) low in
    rw ez (omega (arith, ints))

all_bound : (k : ℕ) (rows : List (List ℤ)) (t : ℕ) (w : List ℕ) (r : List ℤ) → k < length w + 1 → AllHold (crossed_out k rows) t w → In r (rising k rows) → All (Bounds k (t ∷ w) r) (rising k rows) → All (Bounds k (t ∷ w) r) rows
all_bound k rows t w r lt h ir best =
    let ps = t ∷ w in
    let Here : List ℤ → Type 0 = λ r. Holds r t w in
    let up = positive_is _ (of-filter (λ r. is_positive (entry r k)) rows r ir).1 in
    to_All (Bounds k ps r) rows (λ s i.
    elim (sign_of (entry s k)) [
      | inl p ↦ from_All (Bounds k ps r) (rising k rows) s best (in-filter _ rows s p i)
      | inr o ↦ elim o [
        | inl n ↦ crossed_bounds k r s ps (omega arith) up (negative_is _ n)
            (from_All Here (crossed_out k rows) (crossed k r s) h
            (in-right (without k rows) (crossings k rows) _ (in-crossings k rows r s ir (in-filter _ rows s n i))))
        | inr z ↦
            zero_bounds k r s ps (omega arith) up (zero_is (entry s k) z)
            (from_All Here (crossed_out k rows) s h (in-left (without k rows) (crossings k rows) s (in-filter _ rows s z i)))
      ]
    ])

-- a row that bounds column k best, where what is left holds
pub record Guide (k : ℕ) (ps : List ℕ) (rows : List (List ℤ)) : Type 0 where
  pub row : List ℤ
  pub here : In row rows
  pub rises : pos 1 ≤ℤ entry row k
  pub bounds : All (Bounds k ps row) rows

pub guide_crossed : (k : ℕ) (rows : List (List ℤ)) (floor : List ℤ) (t : ℕ) (w : List ℕ) → k < length w + 1 → In floor rows → pos 1 ≤ℤ entry floor k →
    AllHold (crossed_out k rows) t w → Guide k (t ∷ w) rows
guide_crossed k rows floor t w lt fi ff h =
    let ps = t ∷ w in
    let ffi = in-filter (λ r. is_positive (entry r k)) rows floor (is_positive-from _ ff) fi in
    let b = best_in k ps floor (rising k rows) ffi (to_All (Rises k) (rising k rows) (λ r i. positive_is _ (of-filter (λ r. is_positive (entry r k)) rows r i).1)) in
    let of = of-filter (λ r. is_positive (entry r k)) rows b.row b.here in
    record {
      row = b.row;
      here = of.0;
      rises = positive_is _ of.1;
      bounds = all_bound k rows t w b.row lt h b.here b.best;
    }

-- a row that says that the variable is at least some natural has nothing else above 0
pub floor_rest : (k : ℕ) (floor : List ℤ) (m t : ℕ) (w : List ℕ) → length w ≡ m → Floors m k floor → rest k (t ∷ w) floor ≤ℤ pos 0
floor_rest k floor m t w lw ff = rest_low floor (t ∷ w) k (λ j l n. floor_at j l n)
  where
    floor_at : (j : ℕ) → j < length (t ∷ w) → j ≢ k → entry floor j ≤ℤ pos 0
    floor_at zero l n = ff.low
    floor_at (suc j) l n = let e = ff.others (suc j) (omega arith) (omega arith) n in omega (arith, ints, e)

-- what the column may not fall below is at least 0
pub guide_low : (k : ℕ) (rows : List (List ℤ)) (floor : List ℤ) (m t : ℕ) (w : List ℕ) → length w ≡ m → In floor rows → Floors m k floor → (g : Guide k (t ∷ w) rows) → rest k (t ∷ w) g.row ≤ℤ pos 0
guide_low k rows floor m t w lw fi ff g =
    let ps = t ∷ w in
    let at_floor = from_All (Bounds k ps g.row) rows floor g.bounds fi in
    low_from (entry floor k) (rest k ps g.row) (entry g.row k) (rest k ps floor) ff.rises g.rises at_floor (floor_rest k floor m t w lw ff)

-- a row without the variable that holds on the rows holds at this point
pub guided : (k m : ℕ) (rows : List (List ℤ)) (floor q : List ℤ) (t : ℕ) (w : List ℕ) → 1 ≤ k → k ≤ m → 1 ≤ t → length w ≡ m → In floor rows → Floors m k floor → entry q k ≡ pos 0 → HoldsOn (m + 1) rows q →
    Guide k (t ∷ w) rows → Holds q t w
guided zero m rows floor q t w k1 kn t1 wn fi ff eq on g = absurd (omega arith)
guided (suc k') m rows floor q t w k1 kn t1 wn fi ff eq on g =
    let k = suc k' in
    let ps = t ∷ w in
    let r = g.row in
    let up = g.rises in
    let low : rest k ps r ≤ℤ pos 0 = guide_low k rows floor m t w wn fi ff g in
    let a = unsigned_abs (entry r k) in
    let v = unsigned_abs (rest k ps r) in
    let all = projected k ps r rows (omega arith) up low g.bounds in
    let ap1 : 1 ≤ a = omega (arith, ints) in
    let got = on (a * t) (put (times a w) k' v) (mul-pos ap1 t1) (omega (arith, length-put (times a w) k' v, length-times w a)) all in
    let lt : k < length (times a ps) = omega (arith, length-times ps a) in
    let split = value-put q (times a ps) k v lt in
    let gone : entry q k *ℤ pos v ≡ pos 0 = rw eq (zero-*ℤ (pos v)) in
    let low_part : rest k (times a ps) q ≡ pos a *ℤ rest k ps q = ap (λ l. value q l) (put-times ps k a) ∙ value-times q (put ps k 0) a in
    let all_part : value q (put (times a ps) k v) ≡ pos a *ℤ rest k ps q = split ∙ rw (gone, low_part) (+ℤ_idl (pos a *ℤ rest k ps q)) in
    let up_part : (pos a *ℤ pos 0) ≤ℤ (pos a *ℤ rest k ps q) = omega (arith, ints, rw all_part at got) in
    let rest_up = mul_cancel (pos a) (pos 0) (rest k ps q) (omega (arith, ints)) up_part in
    rw (same_rest q ps k (omega arith) eq) rest_up
