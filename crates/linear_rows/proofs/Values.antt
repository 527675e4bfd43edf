-- The chosen values are a point at which all rows hold.
use Rattle.std.proofs.Common.{◌≡◌, ℕ, zero, suc, ℤ, pos, List, [], ◌∷◌, ◌+◌, ◌<◌, ◌≤◌, ◌+ℤ◌, ◌*ℤ◌, Some, map, length, drop, refl, sym, subst, ap, ◌∙◌, arith, inl, inr, ◌⊎◌}
use Rattle.std.specs.Prelude.{◌≤ℤ◌}
use Rattle.std.proofs.lemmas.Int.{ints}
use Rattle.std.proofs.lemmas.List.Elements.{All-nil}
use lib.IntN.{neg_ℤ, zero-*ℤ, +ℤ_idl}
use Rattle.exact128.proofs.Rings.{rings, mul_nonneg, mul_cancel, mul_le, cancel, mul_pos}
use Rattle.exact128.specs.Sums.{entry, dot}
use Rattle.linear_rows.specs.Rows.{Holds, AllHold}
use Rattle.linear_rows.specs.Elimination.{rising, is_positive}
use Rattle.linear_rows.specs.Step.{eliminated, all_eliminated, columns, HasFloor}
use Rattle.linear_rows.specs.Equation.{step}
use Rattle.linear_rows.specs.Members.{In}
use Rattle.linear_rows.proofs.Members.{in-filter, of-filter, from_All, to_All}
use Rattle.linear_rows.proofs.Projection.{value, rest, put, Bounds}
use Rattle.linear_rows.proofs.Bounding.{split_at}
use Rattle.linear_rows.proofs.Cleanings.{cleaned_all}
use Rattle.linear_rows.proofs.Steps.{Guide, positive_is, is_positive-from, floor_rest}
use Rattle.linear_rows.proofs.Whole.{guide_of}
use Rattle.linear_rows.proofs.Sequence.{floor_stays}
use Rattle.linear_rows.proofs.Origins.{Gone, gone, gone_stays}
use Rattle.exact128.specs.Fractions.{Fraction, whole, then_do}
use Rattle.linear_rows.specs.Solving.{bound, greatest, values_of}
use Rattle.linear_rows.proofs.Worths.{went, same_some, Worth, Worths, rest_worth, IsBound, bound_is, Positive, Attained, greatest_is}

-- ---- the rest of a row in which the columns before k are gone
tail_rest : (k : ℕ) (rs : List ℤ) (w : List ℕ) → ((j : ℕ) → j < k → entry rs j ≡ pos 0) → k < length w → value rs (put w k 0) ≡ dot (drop (suc k) rs) (map pos (drop (suc k) w))
unfolding dot
tail_rest k [] w z h = refl
tail_rest k (a ∷ rs) [] z h = absurd (omega arith)
tail_rest zero (a ∷ rs) (y ∷ w) z h = omega (arith, ints)
tail_rest (suc k) (a ∷ rs) (y ∷ w) z h =
    let gone : a *ℤ pos y ≡ pos 0 = rw (z 0 (omega arith)) (zero-*ℤ (pos y)) in
    rw gone (+ℤ_idl (value rs (put w k 0)) ∙ tail_rest k rs w (λ j l. z (suc j) (omega arith)) (omega arith))

pub rest_is : (k t : ℕ) (w : List ℕ) (r : List ℤ) → 1 ≤ k → k ≤ length w → ((j : ℕ) → 1 ≤ j → j < k → entry r j ≡ pos 0) → rest k (t ∷ w) r ≡ rest_worth t k (drop (suc k) (t ∷ w)) r
unfolding dot
rest_is zero t w r k1 h z = absurd (omega arith)
rest_is (suc k) t w [] k1 h z = omega (arith, ints)
rest_is (suc k) t w (a ∷ rs) k1 h z = ap (λ y. a *ℤ pos t +ℤ y) (tail_rest k rs w (λ j l. z (suc j) (omega arith) (omega arith)) (omega arith))

-- ---- the chosen value
-- x = v, which is at least the row's bound: the row leaves x room
room_core : (x T vn vd bn bd a L : ℤ) → pos 0 ≤ℤ T → pos 1 ≤ℤ vd → pos 1 ≤ℤ bd → pos 1 ≤ℤ a → vn *ℤ T ≡ x *ℤ vd → bn *ℤ (a *ℤ T) ≡ neg_ℤ L *ℤ bd → (vd *ℤ bn) ≤ℤ (bd *ℤ vn) → pos 0 ≤ℤ (a *ℤ x +ℤ L)
room_core x T vn vd bn bd a L pt pv pb pa ev eb le =
    let more = mul_le (a *ℤ T) (vd *ℤ bn) (bd *ℤ vn) (mul_nonneg a T (omega (arith, ints)) pt) le in
    let l : (a *ℤ T) *ℤ (vd *ℤ bn) ≡ vd *ℤ (bn *ℤ (a *ℤ T)) = simp rings in
    let l2 : vd *ℤ (neg_ℤ L *ℤ bd) ≡ (vd *ℤ bd) *ℤ neg_ℤ L = simp rings in
    let r : (a *ℤ T) *ℤ (bd *ℤ vn) ≡ (bd *ℤ a) *ℤ (vn *ℤ T) = simp rings in
    let r2 : (bd *ℤ a) *ℤ (x *ℤ vd) ≡ (vd *ℤ bd) *ℤ (a *ℤ x) = simp rings in
    let all : ((vd *ℤ bd) *ℤ neg_ℤ L) ≤ℤ ((vd *ℤ bd) *ℤ (a *ℤ x)) = rw (← l2, ← eb, ← l, ← r2, ← ev, ← r) more in
    let low = mul_cancel (vd *ℤ bd) (neg_ℤ L) (a *ℤ x) (mul_pos vd bd pv pb) all in
    omega (arith, ints)

-- x = v, which is the row's bound
tight_core : (x T vn vd a L : ℤ) → pos 1 ≤ℤ vd → vn *ℤ T ≡ x *ℤ vd → vn *ℤ (a *ℤ T) ≡ neg_ℤ L *ℤ vd → a *ℤ x ≡ neg_ℤ L
tight_core x T vn vd a L pv ev eb =
    let one : vd *ℤ (a *ℤ x) ≡ a *ℤ (x *ℤ vd) = simp rings in
    let two : a *ℤ (vn *ℤ T) ≡ vn *ℤ (a *ℤ T) = simp rings in
    let three : neg_ℤ L *ℤ vd ≡ vd *ℤ neg_ℤ L = simp rings in
    cancel vd (a *ℤ x) (neg_ℤ L) pv (one ∙ ap (λ z. a *ℤ z) (sym ev) ∙ two ∙ eb ∙ three)

-- what holds at the best row and at a tight one makes every bounded row hold
all_core : (x a L a1 L1 b M : ℤ) → pos 1 ≤ℤ a → pos 1 ≤ℤ a1 → pos 0 ≤ℤ (a *ℤ x +ℤ L) → (a1 *ℤ x +ℤ L1) ≤ℤ pos 0 → (a1 *ℤ L) ≤ℤ (a *ℤ L1) → (b *ℤ L) ≤ℤ (a *ℤ M) → pos 0 ≤ℤ (b *ℤ x +ℤ M)
all_core x a L a1 L1 b M pa pa1 room tight best bounded =
    let low = mul_le a L1 (neg_ℤ (a1 *ℤ x)) (omega (arith, ints)) (omega (arith, ints)) in
    let turn : a *ℤ neg_ℤ (a1 *ℤ x) ≡ a1 *ℤ neg_ℤ (a *ℤ x) = simp rings in
    let high : L ≤ℤ neg_ℤ (a *ℤ x) = mul_cancel a1 L (neg_ℤ (a *ℤ x)) pa1 (omega (arith, ints, turn)) in
    let same : L ≡ neg_ℤ (a *ℤ x) = omega (arith, ints) in
    let e : b *ℤ neg_ℤ (a *ℤ x) ≡ a *ℤ neg_ℤ (b *ℤ x) = simp rings in
    let at : (a *ℤ neg_ℤ (b *ℤ x)) ≤ℤ (a *ℤ M) = rw (← e, ← same) bounded in
    let end = mul_cancel a (neg_ℤ (b *ℤ x)) M pa at in
    omega (arith, ints)

-- ---- one column
record Tight (k x : ℕ) (ps : List ℕ) (rows : List (List ℤ)) : Type 0 where
  row : List ℤ
  here : In row rows
  rises : pos 1 ≤ℤ entry row k
  is : (entry row k *ℤ pos x +ℤ rest k ps row) ≤ℤ pos 0

times_zero : (a : ℤ) (x : ℕ) → x ≡ 0 → a *ℤ pos x ≡ pos 0
times_zero a x e = rw e (omega (arith, ints))

zero_value : (D x : ℕ) → 1 ≤ D → pos 0 *ℤ pos D ≡ pos x *ℤ pos 1 → x ≡ 0
zero_value D x p e = omega (arith, ints)

column_holds : (m k t x : ℕ) (w : List ℕ) (vs : List Fraction) (v : Fraction) (rows : List (List ℤ)) → 1 ≤ k → k ≤ m → 1 ≤ t → length w ≡ m → HasFloor m k rows →
    ((j : ℕ) → 1 ≤ j → j < k → Gone j rows) → put (t ∷ w) k x ≡ t ∷ w → Worths t vs (drop (suc k) (t ∷ w)) → Worth t v (pos x) →
    greatest k vs (whole (pos 0)) (rising k rows) ≡ Some v → Guide k (t ∷ w) rows → AllHold rows t w
column_holds m k t x w vs v rows k1 km t1 lw floor z at ws wv e g =
    let ps = t ∷ w in
    let best = greatest_is k vs (whole (pos 0)) v (rising k rows) (omega (arith, ints))
    (λ r b i was. (bound_is t k vs (drop (suc k) ps) r b ws (positive_is (entry r k) (of-filter (λ r. is_positive (entry r k)) rows r i).1) was).positive) e in
    let r = g.row in
    let ir = in-filter (λ r. is_positive (entry r k)) rows r (is_positive-from (entry r k) g.rises) g.here in
    let low = best.below r ir in
    let b = is_bound r low.least g.here g.rises low.was in
    let room = room_core (pos x) (pos t) v.num v.den low.least.num low.least.den (entry r k) (rest k ps r) (omega (arith, ints)) best.positive b.positive g.rises wv.is b.is low.at_most in
    let tight : Tight k x (t ∷ w) rows = elim best.attained [ inl is ↦ at_floor is | inr a ↦ at_row a best.positive ] in
    to_All (λ s. Holds s t w) rows (λ s i.
    let split = split_at s ps k x (omega arith) at in
    let all = all_core (pos x) (entry r k) (rest k ps r) (entry tight.row k) (rest k ps tight.row) (entry s k) (rest k ps s) g.rises tight.rises room tight.is
    (from_All (Bounds k ps r) rows tight.row g.bounds tight.here) (from_All (Bounds k ps r) rows s g.bounds i) in
    rw split all)
  where
    is_bound : (r : List ℤ) (b : Fraction) → In r rows → pos 1 ≤ℤ entry r k → bound k vs r ≡ Some b → IsBound t (entry r k) (rest k (t ∷ w) r) b
    is_bound r b i up was =
        let same = rest_is k t w r k1 (omega arith) (λ j l h. z j l h r i) in
        rw same (bound_is t k vs (drop (suc k) (t ∷ w)) r b ws up was)

    at_floor : v ≡ whole (pos 0) → Tight k x (t ∷ w) rows
    at_floor is =
        let w0 : Worth t (whole (pos 0)) (pos x) = subst (λ f. Worth t f (pos x)) is wv in
        let x0 = zero_value t x t1 w0.is in
        let low = floor_rest k floor.row m t w lw floor.floors in
        let none = times_zero (entry floor.row k) x x0 in
        record { row = floor.row; here = floor.here; rises = floor.floors.rises; is = omega (arith, ints, none) }

    at_row : Attained k vs v (rising k rows) → Positive v → Tight k x (t ∷ w) rows
    at_row a pv =
        let f = of-filter (λ r. is_positive (entry r k)) rows a.row a.here in
        let up = positive_is (entry a.row k) f.1 in
        let b = is_bound a.row v f.0 up a.is in
        let e = tight_core (pos x) (pos t) v.num v.den (entry a.row k) (rest k (t ∷ w) a.row) pv wv.is b.is in
        record { row = a.row; here = f.0; rises = up; is = omega (arith, ints, e) }

-- ---- all columns
drop_at : (ps : List ℕ) (k : ℕ) → k < length ps → (x : ℕ) × (drop k ps ≡ x ∷ drop (suc k) ps) × (put ps k x ≡ ps)
drop_at [] k h = absurd (omega arith)
drop_at (p ∷ ps) zero h = (p, refl, refl)
drop_at (p ∷ ps) (suc k) h = let d = drop_at ps k (omega arith) in (d.0, d.1, ap (λ l. p ∷ l) d.2)

pub values_hold : (m i k : ℕ) (t : ℕ) (w : List ℕ) (vs : List Fraction) (rows : List (List ℤ)) → k + i ≡ m + 1 → 1 ≤ k → 1 ≤ t → length w ≡ m →
    ((j : ℕ) → k ≤ j → j ≤ m → HasFloor m j rows) → ((j : ℕ) → 1 ≤ j → j < k → Gone j rows) →
    all_eliminated m (columns k i) rows ≡ [] → values_of m (columns k i) rows ≡ Some vs → Worths t vs (drop k (t ∷ w)) → AllHold rows t w
values_hold m zero k t w vs rows ek k1 t1 lw f z left e ws = rw left (All-nil (λ r. Holds r t w))
values_hold m (suc i) k t w vs rows ek k1 t1 lw f z left e ws =
    let km : k ≤ m = omega arith in
    let one = went (values_of m (columns (suc k) i) (eliminated m k rows)) (λ vs. then_do (greatest k vs (whole (pos 0)) (rising k rows)) (λ v. Some (v ∷ vs))) vs e in
    let two = went (greatest k one.value (whole (pos 0)) (rising k rows)) (λ v. Some (v ∷ one.value)) vs one.next in
    let v = two.value in
    let at = drop_at (t ∷ w) k (omega arith) in
    let ws2 : Worths t (v ∷ one.value) (at.0 ∷ drop (suc k) (t ∷ w)) = subst (λ l. Worths t (v ∷ one.value) l) at.1 (subst (λ l. Worths t l (drop k (t ∷ w))) (sym (same_some (v ∷ one.value) vs two.next)) ws) in
    let floor = f k (omega arith) km in
    let more = values_hold m i (suc k) t w one.value (eliminated m k rows) (omega arith) (omega arith) t1 lw
    (λ j l h. floor_stays m k j rows k1 km (omega arith) h (omega arith) (f j (omega arith) h))
    (λ j l h. gone_before m k j rows k1 km l h (z j l))
    left one.was ws2.1 in
    let raw = cleaned_all m (step (m + 1) k rows) t w lw more in
    let g = guide_of (m + 1) k rows floor.row t w (omega arith) (omega arith) floor.here floor.floors.rises raw in
    column_holds m k t at.0 w one.value v rows k1 km t1 lw floor z at.2 ws2.1 ws2.0 two.was g
  where
    gone_before : (m k j : ℕ) (rows : List (List ℤ)) → 1 ≤ k → k ≤ m → 1 ≤ j → j < suc k → (j < k → Gone j rows) → Gone j (eliminated m k rows)
    gone_before m k j rows k1 km l h z = look j h z (lt_or k j h)
      where
        lt_or : (k j : ℕ) → j < suc k → (j < k) ⊎ (j ≡ k)
        lt_or k j h = search arith

        look : (j : ℕ) → j < suc k → (j < k → Gone j rows) → (j < k) ⊎ (j ≡ k) → Gone j (eliminated m k rows)
        look j h z (inl lt) = gone_stays m k j rows km (z lt)
        look j h z (inr is) = λ q i. rw is (gone m k rows q km i)
