-- The rows that elimination leaves of a join's system hold exactly where both lists hold, where each list has a point.
use Rattle.std.proofs.Common.{◌≡◌, ◌≢◌, ℕ, zero, suc, ◌+◌, ◌-◌, ◌*◌, ◌<◌, ◌≤◌, ℤ, pos, negsuc, neg_ℤ, ◌+ℤ◌, ◌*ℤ◌, ◌⊎◌, inl, inr, List, [], ◌∷◌, ◌++◌, map, take, length, refl, ap, sym, subst, ◌∙◌, arith}
use Rattle.std.specs.Prelude.{All, ◌≤ℤ◌, ◌↔◌}
use Rattle.std.proofs.lemmas.Int.{ints}
use Rattle.std.proofs.lemmas.List.{length-map}
use Rattle.exact128.proofs.Rings.{rings, mul_nonneg}
use Rattle.exact128.specs.Sums.{dot, entry}
use Rattle.linear_rows.specs.Rows.{Holds, AllHold, HoldsOn}
use Rattle.linear_rows.specs.Members.{In}
use Rattle.linear_rows.specs.Step.{all_eliminated, columns, HasFloor, Floors}
use Rattle.linear_rows.specs.Solving.{zeros, units, coefficients}
use Rattle.linear_rows.specs.Systems.{opposite, naturals, differences, in_first, in_second, join_rows, join_left}
use Rattle.linear_rows.proofs.Members.{from_All, to_All, in-left, in-right, in-map, of-append, of-map}
use Rattle.linear_rows.proofs.Starts.{dot-zeros}
use Rattle.termination_model.specs.chains.ChainRows.{HasPoint}
use Rattle.termination_model.proofs.CutLaw.{q_value, cut_same}
use Rattle.termination_model.proofs.ImageLaw.{dot_append, map-append, length-zeros, length-units, dot_opposite, dot_units, natural_rows, in_columns, floor_row, in_naturals, split_at, naught, length-naught, length_append}
use Rattle.termination_model.proofs.Naturals.{never_below}

-- ---- a row that holds on rows, at a point whose t may be 0
-- k times the second list on top of the first
abbrev plus_times : List ℕ → ℕ → List ℕ → List ℕ
plus_times [] k vs = []
plus_times (u ∷ us) k [] = u ∷ us
plus_times (u ∷ us) k (v ∷ vs) = (u + k * v) ∷ plus_times us k vs

length-plus_times : (us : List ℕ) (k : ℕ) (vs : List ℕ) → length (plus_times us k vs) ≡ length us
length-plus_times [] k vs = refl
length-plus_times (u ∷ us) k [] = refl
length-plus_times (u ∷ us) k (v ∷ vs) = ap suc (length-plus_times us k vs)

dot-plus_times : (cs : List ℤ) (us : List ℕ) (k : ℕ) (vs : List ℕ) → length us ≡ length vs → dot cs (map pos (plus_times us k vs)) ≡ dot cs (map pos us) +ℤ pos k *ℤ dot cs (map pos vs)
unfolding dot
dot-plus_times [] us k vs e = omega (arith, ints)
dot-plus_times (a ∷ cs) [] k [] e = omega (arith, ints)
dot-plus_times (a ∷ cs) [] k (v ∷ vs) e = absurd (omega arith)
dot-plus_times (a ∷ cs) (u ∷ us) k [] e = absurd (omega arith)
dot-plus_times (a ∷ cs) (u ∷ us) k (v ∷ vs) e =
    let p : pos (u + k * v) ≡ pos u +ℤ pos k *ℤ pos v = omega (arith, ints) in
    rw (dot-plus_times cs us k vs (omega arith), p) (simp rings (omega (arith, ints)))

-- so a direction along which the rows hold may be followed for ever
row_along : (row : List ℤ) (t k : ℕ) (us vs : List ℕ) → length us ≡ length vs → dot row (pos t ∷ map pos (plus_times us k vs)) ≡ dot row (pos t ∷ map pos us) +ℤ pos k *ℤ dot row (pos 0 ∷ map pos vs)
unfolding dot
row_along [] t k us vs e = omega (arith, ints)
row_along (b ∷ cs) t k us vs e = rw (dot-plus_times cs us k vs e) (simp rings (omega (arith, ints)))

sum_natural : (x y : ℤ) (k : ℕ) → pos 0 ≤ℤ x → pos 0 ≤ℤ y → pos 0 ≤ℤ (x +ℤ pos k *ℤ y)
sum_natural x y k hx hy = let p = mul_nonneg (pos k) y (omega (arith, ints)) hy in omega (arith, ints)

pub holds_any : (n : ℕ) (rows : List (List ℤ)) (r : List ℤ) → HasPoint n rows → HoldsOn (suc n) rows r → (t : ℕ) (w : List ℕ) → length w ≡ n → ((y : List ℤ) → In y rows → pos 0 ≤ℤ dot y (pos t ∷ map pos w)) → pos 0 ≤ℤ dot r (pos t ∷ map pos w)
holds_any n rows r p h (suc t) w l all = h (suc t) w (omega arith) (omega arith) (to_All (λ (y : List ℤ). Holds y (suc t) w) rows all)
holds_any n rows r p h zero w l all =
    let same : length p.w ≡ length w = p.long ∙ sym l in
    never_below (dot r (pos p.t ∷ map pos p.w)) (dot r (pos 0 ∷ map pos w)) (λ k.
    let at : AllHold rows p.t (plus_times p.w k w) = to_All (λ (y : List ℤ). Holds y p.t (plus_times p.w k w)) rows (λ y i.
    let e = row_along y p.t k p.w w same in
    subst (λ (z : ℤ). pos 0 ≤ℤ z) (sym e) (sum_natural (dot y (pos p.t ∷ map pos p.w)) (dot y (pos 0 ∷ map pos w)) k (from_All (λ (y : List ℤ). Holds y p.t p.w) rows y p.hold i) (all y i))) in
    let is = h p.t (plus_times p.w k w) p.some (let m = length-plus_times p.w k w in let o = p.long in omega (arith, m, o)) at in
    subst (λ (z : ℤ). pos 0 ≤ℤ z) (row_along r p.t k p.w w same) is)

-- ---- the system's rows, at a point of x, y and s
module _ (n t : ℕ) (x y : List ℕ) (s : ℕ) (lx : length x ≡ n) (ly : length y ≡ n) where
  abbrev all : List ℤ
  all = pos t ∷ map pos (x ++ y ++ s ∷ [])

  plain : map pos (x ++ y ++ s ∷ []) ≡ map pos x ++ map pos y ++ pos s ∷ []
  plain = map-append (x ++ y) (s ∷ []) ∙ ap (λ l. l ++ pos s ∷ []) (map-append x y)

  -- a list of coefficients for x, one for y and one for s
  three : (cx cy : List ℤ) (c : ℤ) → length cx ≡ n → length cy ≡ n → dot (cx ++ cy ++ c ∷ []) (map pos x ++ map pos y ++ pos s ∷ []) ≡ dot cx (map pos x) +ℤ dot cy (map pos y) +ℤ c *ℤ pos s
  unfolding dot
  three cx cy c ex ey =
      let one = dot_append (cx ++ cy) (c ∷ []) (map pos x ++ map pos y) (pos s ∷ []) (length_append cx cy ∙ omega (arith, ex, ey, lx, ly, length-map x pos, length-map y pos, length_append (map pos x) (map pos y))) in
      let two = dot_append cx cy (map pos x) (map pos y) (ex ∙ sym lx ∙ sym (length-map x pos)) in
      omega (arith, ints, one, two)

  first_value : (r : List ℤ) → length r ≡ suc n → dot (in_first n r) all ≡ dot r (pos s ∷ map pos y)
  unfolding dot
  first_value [] e = absurd (omega arith)
  first_value (b ∷ cs) e =
      let v = three (zeros n) cs b (length-zeros n) (omega arith) in
      let z = dot-zeros n (map pos x) in
      rw plain (omega (arith, ints, v, z))

  second_value : (r : List ℤ) → length r ≡ suc n → dot (in_second r) all ≡ entry r 0 *ℤ pos t +ℤ dot (coefficients r) (map pos x) +ℤ neg_ℤ (dot (coefficients r) (map pos y)) +ℤ neg_ℤ (entry r 0 *ℤ pos s)
  unfolding dot
  second_value [] e = absurd (omega arith)
  second_value (b ∷ cs) e =
      let v = three cs (opposite cs) (neg_ℤ b) (omega arith) (length-map cs neg_ℤ ∙ omega arith) in
      let o = dot_opposite cs (map pos y) in
      let m : neg_ℤ b *ℤ pos s ≡ neg_ℤ (b *ℤ pos s) = simp rings (omega (arith, ints)) in
      rw plain (omega (arith, ints, v, o, m))

  difference_value : (i : ℕ) → dot (pos 0 ∷ (units n i ++ opposite (units n i) ++ pos 0 ∷ [])) all ≡ entry (map pos x) i +ℤ neg_ℤ (entry (map pos y) i)
  unfolding dot
  difference_value i =
      let v = three (units n i) (opposite (units n i)) (pos 0) (length-units n i) (length-map (units n i) neg_ℤ ∙ length-units n i) in
      let o = dot_opposite (units n i) (map pos y) in
      let a = dot_units n i (map pos x) (length-map x pos ∙ lx) in
      let b = dot_units n i (map pos y) (length-map y pos ∙ ly) in
      rw plain (omega (arith, ints, v, o, a, b))

  last_value : (b c : ℤ) → dot (b ∷ (zeros (n + n) ++ c ∷ [])) all ≡ b *ℤ pos t +ℤ c *ℤ pos s
  unfolding dot
  last_value b c =
      let v = dot_append (zeros (n + n)) (c ∷ []) (map pos x ++ map pos y) (pos s ∷ []) (length-zeros (n + n) ∙ omega (arith, lx, ly, length-map x pos, length-map y pos, length_append (map pos x) (map pos y))) in
      let z = dot-zeros (n + n) (map pos x ++ map pos y) in
      rw plain (omega (arith, ints, v, z))

-- the value of a row, its constant apart
apart : (row : List ℤ) (t : ℕ) (x : List ℕ) → dot row (pos t ∷ map pos x) ≡ entry row 0 *ℤ pos t +ℤ dot (coefficients row) (map pos x)
unfolding dot
apart [] t x = omega (arith, ints)
apart (b ∷ cs) t x = refl

-- ---- the whole list
module _ (n : ℕ) (first second : List (List ℤ)) (long_first : All (λ r. length r ≡ suc n) first) (long_second : All (λ r. length r ≡ suc n) second) where
  abbrev rows : List (List ℤ)
  rows = join_rows n first second

  abbrev middle : List (List ℤ)
  middle = naturals n n (n + n + 1) ++ differences n n 0 ++ map (in_first n) first ++ map in_second second

  in_middle : (r : List ℤ) → In r middle → In r rows
  in_middle r i = inr (inr i)

  in_differences : (k i j : ℕ) → i ≤ j → j < i + k → In (pos 0 ∷ (units n j ++ opposite (units n j) ++ pos 0 ∷ [])) (differences n k i)
  in_differences zero i j a b = absurd (omega arith)
  in_differences (suc k) i j a b = elim (same_or_more i j a) [ inl is ↦ inl (ap (λ m. pos 0 ∷ (units n m ++ opposite (units n m) ++ pos 0 ∷ [])) is) | inr lt ↦ inr (in_differences k (suc i) j lt (omega arith)) ]
    where
      same_or_more : (k j : ℕ) → k ≤ j → (k ≡ j) ⊎ (suc k ≤ j)
      same_or_more k j a = search arith

  of_differences : (k i : ℕ) (r : List ℤ) → In r (differences n k i) → (j : ℕ) × ((pos 0 ∷ (units n j ++ opposite (units n j) ++ pos 0 ∷ [])) ≡ r)
  of_differences zero i r h = absurd h
  of_differences (suc k) i r (inl is) = (i, is)
  of_differences (suc k) i r (inr h) = of_differences k (suc i) r h

  module _ (t : ℕ) (x y : List ℕ) (s : ℕ) (lx : length x ≡ n) (ly : length y ≡ n) where
    abbrev point : List ℕ
    point = x ++ y ++ s ∷ []

    point_length : length point ≡ n + n + 1
    point_length = omega (arith, length_append (x ++ y) (s ∷ []), length_append x y, lx, ly)

    -- where y and s are a part of x and t, and both lists hold, the rows hold
    rows_hold : s ≤ t → ((i : ℕ) → entry (map pos y) i ≤ℤ entry (map pos x) i) → ((r : List ℤ) → In r first → pos 0 ≤ℤ dot r (pos s ∷ map pos y))
        → ((r : List ℤ) → In r second → pos 0 ≤ℤ (entry r 0 *ℤ pos t +ℤ dot (coefficients r) (map pos x) +ℤ neg_ℤ (dot (coefficients r) (map pos y)) +ℤ neg_ℤ (entry r 0 *ℤ pos s)))
        → AllHold rows t point
    rows_hold st le one two = to_All (λ (r : List ℤ). Holds r t point) rows (λ r i. each r i)
      where
        each : (r : List ℤ) → In r rows → Holds r t point
        each r (inl is) = subst (λ (z : List ℤ). Holds z t point) is (let v = last_value n t x y s lx ly (pos 0) (pos 1) in omega (arith, ints, v))
        each r (inr (inl is)) = subst (λ (z : List ℤ). Holds z t point) is (let v = last_value n t x y s lx ly (pos 1) (negsuc 0) in omega (arith, ints, v))
        each r (inr (inr i)) = elim (of-append (naturals n n (n + n + 1) ++ differences n n 0 ++ map (in_first n) first) (map in_second second) r i) [
          | inr j ↦
              let m = of-map in_second second r j in
              let v = second_value n t x y s lx ly m.0 (from_All (λ (r : List ℤ). length r ≡ suc n) second m.0 long_second m.1) in
              let h = two m.0 m.1 in
              subst (λ (z : List ℤ). Holds z t point) m.2 (subst (λ (z : ℤ). pos 0 ≤ℤ z) (sym v) h)
          | inl j ↦ elim (of-append (naturals n n (n + n + 1) ++ differences n n 0) (map (in_first n) first) r j) [
            | inr k ↦
                let m = of-map (in_first n) first r k in
                let v = first_value n t x y s lx ly m.0 (from_All (λ (r : List ℤ). length r ≡ suc n) first m.0 long_first m.1) in
                let h = one m.0 m.1 in
                subst (λ (z : List ℤ). Holds z t point) m.2 (subst (λ (z : ℤ). pos 0 ≤ℤ z) (sym v) h)
            | inl k ↦ elim (of-append (naturals n n (n + n + 1)) (differences n n 0) r k) [
              | inl l ↦ natural_rows n n (n + n + 1) t point point_length r l
              | inr l ↦
                  let m = of_differences n 0 r l in
                  let v = difference_value n t x y s lx ly m.0 in
                  let h = le m.0 in
                  subst (λ (z : List ℤ). Holds z t point) m.1 (omega (arith, ints, v, h))
            ]
          ]
        ]

    -- and where they hold, it is so
    pub record Told : Type 0 where
      pub within : s ≤ t
      pub below : (i : ℕ) → i < n → entry (map pos y) i ≤ℤ entry (map pos x) i
      pub one : (r : List ℤ) → In r first → pos 0 ≤ℤ dot r (pos s ∷ map pos y)
      pub two : (r : List ℤ) → In r second → pos 0 ≤ℤ (entry r 0 *ℤ pos t +ℤ dot (coefficients r) (map pos x) +ℤ neg_ℤ (dot (coefficients r) (map pos y)) +ℤ neg_ℤ (entry r 0 *ℤ pos s))

    rows_tell : AllHold rows t point → Told
    rows_tell hold =
        let Here : List ℤ → Type 0 = λ r. Holds r t point in
        let at : (r : List ℤ) → In r rows → Here r = λ r i. from_All Here rows r hold i in
        record {
          within = let v = last_value n t x y s lx ly (pos 1) (negsuc 0) in let h = at (pos 1 ∷ (zeros (n + n) ++ negsuc 0 ∷ [])) (inr (inl refl)) in omega (arith, ints, v, h);
          below = λ i l.
              let d : List ℤ = pos 0 ∷ (units n i ++ opposite (units n i) ++ pos 0 ∷ []) in
              let there : In d middle = in-left (naturals n n (n + n + 1) ++ differences n n 0 ++ map (in_first n) first) (map in_second second) d
              (in-left (naturals n n (n + n + 1) ++ differences n n 0) (map (in_first n) first) d (in-right (naturals n n (n + n + 1)) (differences n n 0) d (in_differences n 0 i (omega arith) (omega arith)))) in
              let h = at d (in_middle d there) in
              let v = difference_value n t x y s lx ly i in
              omega (arith, ints, v, h);
          one = λ r i.
              let d = in_first n r in
              let there : In d middle = in-left (naturals n n (n + n + 1) ++ differences n n 0 ++ map (in_first n) first) (map in_second second) d (in-right (naturals n n (n + n + 1) ++ differences n n 0) (map (in_first n) first) d (in-map (in_first n) first r i)) in
              let v = first_value n t x y s lx ly r (from_All (λ (r : List ℤ). length r ≡ suc n) first r long_first i) in
              subst (λ (z : ℤ). pos 0 ≤ℤ z) v (at d (in_middle d there));
          two = λ r i.
              let d = in_second r in
              let there : In d middle = in-right (naturals n n (n + n + 1) ++ differences n n 0 ++ map (in_first n) first) (map in_second second) d (in-map in_second second r i) in
              let v = second_value n t x y s lx ly r (from_All (λ (r : List ℤ). length r ≡ suc n) second r long_second i) in
              subst (λ (z : ℤ). pos 0 ≤ℤ z) v (at d (in_middle d there));
        }

  -- what is left of x
  abbrev minus : List ℕ → List ℕ → List ℕ
  minus [] ys = []
  minus (x ∷ xs) [] = x ∷ xs
  minus (x ∷ xs) (y ∷ ys) = (x - y) ∷ minus xs ys

  length-minus : (xs ys : List ℕ) → length (minus xs ys) ≡ length xs
  length-minus [] ys = refl
  length-minus (x ∷ xs) [] = refl
  length-minus (x ∷ xs) (y ∷ ys) = ap suc (length-minus xs ys)

  dot-minus : (cs : List ℤ) (xs ys : List ℕ) → length xs ≡ length ys → ((i : ℕ) → i < length ys → entry (map pos ys) i ≤ℤ entry (map pos xs) i) → dot cs (map pos (minus xs ys)) ≡ dot cs (map pos xs) +ℤ neg_ℤ (dot cs (map pos ys))
  unfolding dot
  dot-minus [] xs ys e h = refl
  dot-minus (a ∷ cs) [] [] e h = refl
  dot-minus (a ∷ cs) [] (y ∷ ys) e h = absurd (omega arith)
  dot-minus (a ∷ cs) (x ∷ xs) [] e h = absurd (omega arith)
  dot-minus (a ∷ cs) (x ∷ xs) (y ∷ ys) e h =
      let le = h 0 (omega arith) in
      let d : pos (x - y) ≡ pos x +ℤ neg_ℤ (pos y) = omega (arith, ints, le) in
      rw (dot-minus cs xs ys (omega arith) (λ i l. h (suc i) (omega arith)), d) (simp rings (omega (arith, ints)))

  dot-naught : (cs : List ℤ) (m : ℕ) → dot cs (map pos (naught m)) ≡ pos 0
  unfolding dot
  dot-naught [] m = refl
  dot-naught (a ∷ cs) zero = refl
  dot-naught (a ∷ cs) (suc m) = let r = dot-naught cs m in omega (arith, ints, r)

  entry-naught : (m i : ℕ) → entry (map pos (naught m)) i ≡ pos 0
  entry-naught zero i = refl
  entry-naught (suc m) zero = refl
  entry-naught (suc m) (suc i) = entry-naught m i

  natural_entry : (ps : List ℕ) (i : ℕ) → pos 0 ≤ℤ entry (map pos ps) i
  natural_entry [] i = omega (arith, ints)
  natural_entry (p ∷ ps) zero = omega (arith, ints)
  natural_entry (p ∷ ps) (suc i) = natural_entry ps i

  assoc : {X : Type 0} (xs ys zs : List X) → (xs ++ ys) ++ zs ≡ xs ++ (ys ++ zs)
  assoc [] ys zs = refl
  assoc (x ∷ xs) ys zs = ap (λ l. x ∷ l) (assoc xs ys zs)

  module _ (first_point : HasPoint n first) (second_point : HasPoint n second) (r : List ℤ) (long : length r ≡ suc n) where
    abbrev q : List ℤ
    q = r ++ zeros (n + 1)

    value : (t : ℕ) (x y : List ℕ) (s : ℕ) → length x ≡ n → dot q (pos t ∷ map pos (x ++ y ++ s ∷ [])) ≡ dot r (pos t ∷ map pos x)
    value t x y s lx = ap (λ (l : List ℕ). dot q (pos t ∷ map pos l)) (assoc x y (s ∷ [])) ∙ q_value n (n + 1) rows r long t x (y ++ s ∷ []) lx

    -- both parts of a sum
    sum_parts : (row : List ℤ) (t s : ℕ) (x y : List ℕ) → s ≤ t → length x ≡ length y → ((i : ℕ) → i < length y → entry (map pos y) i ≤ℤ entry (map pos x) i)
        → dot row (pos t ∷ map pos x) ≡ dot row (pos s ∷ map pos y) +ℤ dot row (pos (t - s) ∷ map pos (minus x y))
    unfolding dot
    sum_parts [] t s x y le e h = omega (arith, ints)
    sum_parts (b ∷ cs) t s x y le e h =
        let m = dot-minus cs x y e h in
        let d : pos (t - s) ≡ pos t +ℤ neg_ℤ (pos s) = omega (arith, ints) in
        rw (m, d) (simp rings (omega (arith, ints)))

    parted : (row : List ℤ) (t s : ℕ) (x y : List ℕ) → s ≤ t → length x ≡ length y → ((i : ℕ) → i < length y → entry (map pos y) i ≤ℤ entry (map pos x) i)
        → dot row (pos (t - s) ∷ map pos (minus x y)) ≡ entry row 0 *ℤ pos t +ℤ dot (coefficients row) (map pos x) +ℤ neg_ℤ (dot (coefficients row) (map pos y)) +ℤ neg_ℤ (entry row 0 *ℤ pos s)
    unfolding dot
    parted [] t s x y le e h = omega (arith, ints)
    parted (b ∷ cs) t s x y le e h =
        let m = dot-minus cs x y e h in
        let d : pos (t - s) ≡ pos t +ℤ neg_ℤ (pos s) = omega (arith, ints) in
        rw (m, d) (simp rings (omega (arith, ints)))

    on_first : HoldsOn (suc (n + (n + 1))) rows q → HoldsOn (suc n) first r
    on_first h t x some lx hold =
        let l : length x ≡ n = omega arith in
        let all = rows_hold t x x t l l (omega arith) (λ i. omega (arith, ints)) (λ y i. from_All (λ (y : List ℤ). Holds y t x) first y hold i) (λ y i. omega (arith, ints)) in
        subst (λ (z : ℤ). pos 0 ≤ℤ z) (value t x x t l) (h t (x ++ x ++ t ∷ []) some (let k = point_length t x x t l l in omega arith) all)

    on_second : HoldsOn (suc (n + (n + 1))) rows q → HoldsOn (suc n) second r
    on_second h t x some lx hold =
        let l : length x ≡ n = omega arith in
        let y = naught n in
        let ly = length-naught n in
        let all = rows_hold t x y 0 l ly (omega arith) (λ i. let z = entry-naught n i in let p = natural_entry x i in omega (arith, ints, z, p)) (λ row i. nothing row) (λ row i. whole row (from_All (λ (z : List ℤ). Holds z t x) second row hold i)) in
        subst (λ (z : ℤ). pos 0 ≤ℤ z) (value t x y 0 l) (h t (x ++ y ++ 0 ∷ []) some (let k = point_length t x y 0 l ly in omega arith) all)
      where
        nothing : (row : List ℤ) → pos 0 ≤ℤ dot row (pos 0 ∷ map pos (naught n))
        nothing row = zero_value row
          where
            zero_value : (row : List ℤ) → pos 0 ≤ℤ dot row (pos 0 ∷ map pos (naught n))
            zero_value row = let e = at_zero row in omega (arith, ints, e)
              where
                at_zero : (row : List ℤ) → dot row (pos 0 ∷ map pos (naught n)) ≡ pos 0
                at_zero row = dot-naught row (suc n)

        whole : (row : List ℤ) → pos 0 ≤ℤ dot row (pos t ∷ map pos x) → pos 0 ≤ℤ (entry row 0 *ℤ pos t +ℤ dot (coefficients row) (map pos x) +ℤ neg_ℤ (dot (coefficients row) (map pos (naught n))) +ℤ neg_ℤ (entry row 0 *ℤ pos 0))
        whole row h = let z = dot-naught (coefficients row) n in let e = apart row t x in omega (arith, ints, z, e)

    on_both : HoldsOn (suc n) first r → HoldsOn (suc n) second r → HoldsOn (suc (n + (n + 1))) rows q
    on_both h1 h2 t ps some lp hold =
        let a = split_at n (n + 1) ps (omega arith) in
        let x = a.0 in
        let b = split_at n 1 a.1 a.4 in
        let y = b.0 in
        let c = single b.1 b.4 in
        let s = c.0 in
        let is : ps ≡ x ++ y ++ s ∷ [] = a.2 ∙ ap (λ (l : List ℕ). x ++ l) (b.2 ∙ ap (λ (l : List ℕ). y ++ l) c.1) ∙ sym (assoc x y (s ∷ [])) in
        let told = rows_tell t x y s a.3 b.3 (subst (λ (l : List ℕ). AllHold rows t l) is hold) in
        let le : (i : ℕ) → i < length y → entry (map pos y) i ≤ℤ entry (map pos x) i = λ i l. told.below i (let k = b.3 in omega arith) in
        let same : length x ≡ length y = a.3 ∙ sym b.3 in
        let one = holds_any n first r first_point h1 s y b.3 told.one in
        let two = holds_any n second r second_point h2 (t - s) (minus x y) (length-minus x y ∙ a.3) (λ row i. subst (λ (z : ℤ). pos 0 ≤ℤ z) (sym (parted row t s x y told.within same le)) (told.two row i)) in
        let e = sum_parts r t s x y told.within same le in
        subst (λ (l : List ℕ). pos 0 ≤ℤ dot q (pos t ∷ map pos l)) (sym is) (subst (λ (z : ℤ). pos 0 ≤ℤ z) (sym (value t x y s a.3)) (omega (arith, ints, e, one, two)))
      where
        single : (l : List ℕ) → length l ≡ 1 → (s : ℕ) × (l ≡ s ∷ [])
        single [] e = absurd (omega arith)
        single (s ∷ []) e = (s, refl)
        single (s ∷ (u ∷ l)) e = absurd (omega arith)

    floors : (k : ℕ) → In k (columns (suc n) (n + 1)) → HasFloor (n + (n + 1)) k rows
    floors k i = go k (in_columns (suc n) (n + 1) k i)
      where
        last_floor : Floors (n + (n + 1)) (suc (n + n)) (pos 0 ∷ (zeros (n + n) ++ pos 1 ∷ []))
        last_floor = record {
          rises = let e = at_end (n + n) in omega (arith, ints, e);
          others = λ j a b ne. other j a ne;
          low = omega (arith, ints);
        }
          where
            at_end : (m : ℕ) → entry (pos 0 ∷ (zeros m ++ pos 1 ∷ [])) (suc m) ≡ pos 1
            at_end zero = refl
            at_end (suc m) = at_end m

            before_end : (m j : ℕ) → j ≢ m → entry (zeros m ++ pos 1 ∷ []) j ≡ pos 0
            before_end zero zero ne = absurd (ne refl)
            before_end zero (suc j) ne = refl
            before_end (suc m) zero ne = refl
            before_end (suc m) (suc j) ne = before_end m j (λ e. ne (ap suc e))

            other : (j : ℕ) → 1 ≤ j → j ≢ suc (n + n) → entry (pos 0 ∷ (zeros (n + n) ++ pos 1 ∷ [])) j ≡ pos 0
            other zero a ne = absurd (omega arith)
            other (suc j) a ne = before_end (n + n) j (λ e. ne (ap suc e))

        same_or_less : (k : ℕ) → k < n + n + 1 → (k ≡ n + n) ⊎ (k < n + n)
        same_or_less k l = search arith

        go : (k : ℕ) → (suc n ≤ k) × (k < suc n + (n + 1)) → HasFloor (n + (n + 1)) k rows
        go zero c = absurd (let l = c.0 in omega arith)
        go (suc k) c = elim (same_or_less k (let l = c.1 in omega arith)) [
          | inl is ↦ record { row = pos 0 ∷ (zeros (n + n) ++ pos 1 ∷ []); here = inl refl; floors = subst (λ (j : ℕ). Floors (n + (n + 1)) (suc j) (pos 0 ∷ (zeros (n + n) ++ pos 1 ∷ []))) (sym is) last_floor }
          | inr lt ↦
              let row : List ℤ = pos 0 ∷ units (n + n + 1) k in
              record {
                row = row;
                here = in_middle row (in-left (naturals n n (n + n + 1) ++ differences n n 0 ++ map (in_first n) first) (map in_second second) row
                    (in-left (naturals n n (n + n + 1) ++ differences n n 0) (map (in_first n) first) row (in-left (naturals n n (n + n + 1)) (differences n n 0) row (in_naturals n n (n + n + 1) k (let l = c.0 in omega arith) (omega arith)))));
                floors = floor_row (n + (n + 1)) (n + n + 1) k (omega arith);
              }
        ]

    -- the rows left say what both lists say
    pub join_same : HoldsOn (suc n) (join_left n first second) r ↔ (HoldsOn (suc n) first r × HoldsOn (suc n) second r)
    join_same =
        let cut = cut_same n (n + 1) rows r long floors in
        let width : n + (n + 1) ≡ n + n + 1 = omega arith in
        let Left : ℕ → Type 0 = λ m. HoldsOn (suc n) (map (take (suc n)) (all_eliminated m (columns (suc n) (n + 1)) rows)) r ↔ HoldsOn (suc (n + (n + 1))) rows q in
        let same = subst Left width cut in
        (λ h. let on = same.0 h in (on_first on, on_second on), λ h. same.1 (on_both h.0 h.1))
