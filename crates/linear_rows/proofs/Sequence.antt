-- Steps one after another: a bound from below stays while other variables go, and a variable that is gone stays gone.
use Rattle.std.proofs.Common.{◌≡◌, ◌≢◌, ℕ, zero, suc, ℤ, pos, negsuc, List, [], ◌∷◌, ◌++◌, ◌+◌, ◌/◌, ◌<◌, ◌≤◌, ◌+ℤ◌, ◌*ℤ◌, ◌-ℤ◌, Bool, true, false, cond, not, map, refl, sym, subst, ap, ◌∙◌, arith, inl, inr}
use Rattle.std.specs.Prelude.{◌≤ℤ◌, ◌<ℤ◌, filter, fold, int_le, int_div, unsigned_abs}
use Rattle.std.specs.Int.{◌∣◌}
use Rattle.std.proofs.lemmas.Nat.Gcd.{dvd-zero}
use Rattle.std.proofs.lemmas.Int.{ints}
use Rattle.std.proofs.Math.Nat.{mul-div_cancel', zero-div}
use Rattle.exact128.specs.Gcd.{gcd}
use Rattle.exact128.proofs.Gcds.{gcd_is, gcd-pos}
use Rattle.exact128.proofs.Rings.{rings}
use Rattle.exact128.specs.Sums.{entry}
use Rattle.linear_rows.specs.Rows.{Holds, HoldsOn}
use Rattle.linear_rows.specs.Elimination.{is_zero, without, crossed}
use Rattle.linear_rows.specs.RowSums.{scaled}
use Rattle.linear_rows.specs.Cleaning.{row_gcd, reduced, agree, is_trivial, insert_row, cleaned}
use Rattle.linear_rows.specs.Equation.{equation_from, combinations_by, step}
use Rattle.linear_rows.specs.Step.{eliminated, all_eliminated, Floors, HasFloor, Within}
use Rattle.linear_rows.specs.Members.{In, Distinct}
use Rattle.linear_rows.proofs.Members.{in-filter, in-left, in-right, in-map, from_All}
use Rattle.exact128.proofs.FitsLemmas.{both}
use Rattle.linear_rows.proofs.Cleanings.{agree_at, exact_div, divides_all, flipped}
use Rattle.linear_rows.proofs.Whole.{kept_on, back_on}
use Rattle.linear_rows.proofs.Soundness.{entry-scaled, entry-added}

-- ---- what cleaning keeps
-- the row x makes the row r needless
pub record Under (m : ℕ) (x r : List ℤ) : Type 0 where
  pub same : (j : ℕ) → 1 ≤ j → j ≤ m → entry x j ≡ entry r j
  pub low : entry x 0 ≤ℤ entry r 0

pub record Covered (m : ℕ) (rows : List (List ℤ)) (r : List ℤ) : Type 0 where
  pub row : List ℤ
  pub here : In row rows
  pub under : Under m row r

under_self : (m : ℕ) (r : List ℤ) → Under m r r
under_self m r = record { same = λ j l h. refl; low = omega (arith, ints) }

under_trans : (m : ℕ) (x y z : List ℤ) → Under m x y → Under m y z → Under m x z
under_trans m x y z a b = record { same = λ j l h. a.same j l h ∙ b.same j l h; low = let p = a.low in let q = b.low in omega (arith, ints) }

more_covered : (m : ℕ) (r x : List ℤ) (rs : List (List ℤ)) → Covered m rs x → Covered m (r ∷ rs) x
more_covered m r x rs c = record { row = c.row; here = inr c.here; under = c.under }

-- row is no worse than r
no_worse : (m : ℕ) (r row : List ℤ) → agree m r row ≡ true → int_le (entry r 0) (entry row 0) ≡ false → Under m row r
no_worse m r row a e =
    let less = flipped (entry r 0) (entry row 0) e in
    record { same = λ j l h. sym (agree_at m r row j a l h); low = omega (arith, ints, less) }

no_better : (m : ℕ) (r row : List ℤ) → agree m r row ≡ true → int_le (entry r 0) (entry row 0) ≡ true → Under m r row
no_better m r row a e = record { same = λ j l h. agree_at m r row j a l h; low = omega (arith, ints, e) }

inserted_old : (m : ℕ) (kept : List (List ℤ)) (row x : List ℤ) → In x kept → Covered m (insert_row m kept row) x
inserted_old m [] row x i = absurd i
inserted_old m (r ∷ rs) row x i = look (agree m r row) refl (int_le (entry r 0) (entry row 0)) refl i (inserted_old m rs row x)
  where
    look : (a : Bool) → agree m r row ≡ a → (b : Bool) → int_le (entry r 0) (entry row 0) ≡ b → In x (r ∷ rs) → (In x rs → Covered m (insert_row m rs row) x) → Covered m (cond a (cond b (r ∷ rs) (rs ++ row ∷ [])) (r ∷ insert_row m rs row)) x
    look true ea true eb i next = record { row = x; here = i; under = under_self m x }
    look true ea false eb (inl is) next = record { row = row; here = in-right rs (row ∷ []) row (inl refl); under = subst (Under m row) is (no_worse m r row ea eb) }
    look true ea false eb (inr i) next = record { row = x; here = in-left rs (row ∷ []) x i; under = under_self m x }
    look false ea b eb (inl is) next = record { row = x; here = inl is; under = under_self m x }
    look false ea b eb (inr i) next = more_covered m r x (insert_row m rs row) (next i)

inserted_new : (m : ℕ) (kept : List (List ℤ)) (row : List ℤ) → Covered m (insert_row m kept row) row
inserted_new m [] row = record { row = row; here = inl refl; under = under_self m row }
inserted_new m (r ∷ rs) row = look (agree m r row) refl (int_le (entry r 0) (entry row 0)) refl (inserted_new m rs row)
  where
    look : (a : Bool) → agree m r row ≡ a → (b : Bool) → int_le (entry r 0) (entry row 0) ≡ b → Covered m (insert_row m rs row) row → Covered m (cond a (cond b (r ∷ rs) (rs ++ row ∷ [])) (r ∷ insert_row m rs row)) row
    look true ea true eb next = record { row = r; here = inl refl; under = no_better m r row ea eb }
    look true ea false eb next = record { row = row; here = in-right rs (row ∷ []) row (inl refl); under = under_self m row }
    look false ea b eb next = more_covered m r row (insert_row m rs row) next

folded_old : (m : ℕ) (kept rows : List (List ℤ)) (r : List ℤ) → Covered m kept r → Covered m (fold (insert_row m) kept rows) r
folded_old m kept [] r c = c
folded_old m kept (row ∷ rows) r c =
    let one = inserted_old m kept row c.row c.here in
    folded_old m (insert_row m kept row) rows r (record { row = one.row; here = one.here; under = under_trans m one.row c.row r one.under c.under })

folded_new : (m : ℕ) (kept rows : List (List ℤ)) (r : List ℤ) → In r rows → Covered m (fold (insert_row m) kept rows) r
folded_new m kept [] r h = absurd h
folded_new m kept (row ∷ rows) r (inl is) = folded_old m (insert_row m kept row) rows r (subst (Covered m (insert_row m kept row)) is (inserted_new m kept row))
folded_new m kept (row ∷ rows) r (inr h) = folded_new m (insert_row m kept row) rows r h

-- each row that is not trivial is covered, reduced
pub cleaned_covers : (m : ℕ) (rows : List (List ℤ)) (r : List ℤ) → In r rows → is_trivial m (reduced r) ≡ false → Covered m (cleaned m rows) (reduced r)
cleaned_covers m rows r h e = folded_new m [] (filter (λ r. not (is_trivial m r)) (map reduced rows)) (reduced r) (in-filter (λ r. not (is_trivial m r)) (map reduced rows) (reduced r) (ap not e) (in-map reduced rows r h))

-- ---- entries of reduced rows
pub zero_div : (g : ℕ) → int_div (pos 0) (pos g) ≡ pos 0
zero_div g = ap pos (zero-div g)

pub entry-reduced : (g : ℕ) (row : List ℤ) (j : ℕ) → entry (map (λ x. int_div x (pos g)) row) j ≡ int_div (entry row j) (pos g)
entry-reduced g [] j = sym (zero_div g)
entry-reduced g (x ∷ xs) zero = refl
entry-reduced g (x ∷ xs) (suc j) = entry-reduced g xs j

pub entry_divides : (row : List ℤ) (j : ℕ) → row_gcd row ∣ unsigned_abs (entry row j)
entry_divides row j = look row j (divides_all row)
  where
    look : (xs : List ℤ) (j : ℕ) → ((x : ℤ) → In x xs → row_gcd row ∣ unsigned_abs x) → row_gcd row ∣ unsigned_abs (entry xs j)
    look [] j h = dvd-zero (row_gcd row)
    look (x ∷ xs) zero h = h x (inl refl)
    look (x ∷ xs) (suc j) h = look xs j (λ y i. h y (inr i))

rises_part : (g : ℕ) (x y : ℤ) → pos g *ℤ y ≡ x → pos 1 ≤ℤ x → pos 1 ≤ℤ y
rises_part g (pos zero) y e h = absurd (omega (arith, ints))
rises_part g (negsuc n) y e h = absurd (omega (arith, ints))
rises_part zero (pos (suc n)) y e h = absurd (omega (arith, ints))
rises_part (suc g) (pos (suc n)) (pos zero) e h = absurd (omega (arith, ints))
rises_part (suc g) (pos (suc n)) (pos (suc y)) e h = omega (arith, ints)
rises_part (suc g) (pos (suc n)) (negsuc y) e h = absurd (omega (arith, ints))

low_part : (x : ℤ) (g : ℕ) → x ≤ℤ pos 0 → int_div x (pos g) ≤ℤ pos 0
low_part (pos zero) g h = rw (zero_div g) (omega (arith, ints))
low_part (pos (suc n)) g h = absurd (omega (arith, ints))
low_part (negsuc n) g h = omega (arith, ints)

pub floors_reduced : (m k : ℕ) (row : List ℤ) → Floors m k row → Floors m k (reduced row)
floors_reduced m k row f =
    let g = row_gcd row in
    record {
      rises = rw (entry-reduced g row k) (rises_part g (entry row k) _ (exact_div (entry row k) g (entry_divides row k)) f.rises);
      others = λ j l h n. entry-reduced g row j ∙ rw (f.others j l h n) (zero_div g);
      low = rw (entry-reduced g row 0) (low_part (entry row 0) g f.low);
    }

floors_under : (m k : ℕ) (x r : List ℤ) → 1 ≤ k → k ≤ m → Under m x r → Floors m k r → Floors m k x
floors_under m k x r k1 km u f = record {
  rises = rw (u.same k k1 km) f.rises;
  others = λ j l h n. u.same j l h ∙ f.others j l h n;
  low = let a = u.low in let b = f.low in omega (arith, ints);
}

floors_matter : (m k : ℕ) (r : List ℤ) → 1 ≤ k → k ≤ m → Floors m k r → (b : Bool) → is_trivial m r ≡ b → is_trivial m r ≡ false
floors_matter m k r k1 km f true e =
    let two = both (agree m r []) (int_le (pos 0) (entry r 0)) e in
    let at : entry r k ≡ pos 0 = agree_at m r [] k two.0 k1 km in
    absurd (let up = f.rises in omega (arith, ints, at))
floors_matter m k r k1 km f false e = e

-- ---- a bound from below stays
zero-is_zero : (z : ℤ) → z ≡ pos 0 → is_zero z ≡ true
zero-is_zero z e = rw e refl

in_step : (n k : ℕ) (rows : List (List ℤ)) (r : List ℤ) → In r rows → entry r k ≡ pos 0 → In r (step n k rows)
in_step n k rows r h e = in-left (without k rows) (combinations_by (equation_from n k rows 0 rows) k rows) r (in-filter (λ r. is_zero (entry r k)) rows r (zero-is_zero (entry r k) e) h)

pub floor_stays : (m k x : ℕ) (rows : List (List ℤ)) → 1 ≤ k → k ≤ m → 1 ≤ x → x ≤ m → k ≢ x → HasFloor m x rows → HasFloor m x (eliminated m k rows)
floor_stays m k x rows k1 km x1 xm ne f =
    let fr = floors_reduced m x f.row f.floors in
    let c = cleaned_covers m (step (m + 1) k rows) f.row (in_step (m + 1) k rows f.row f.here (f.floors.others k k1 km ne)) (floors_matter m x (reduced f.row) x1 xm fr (is_trivial m (reduced f.row)) refl) in
    record { row = c.row; here = c.here; floors = floors_under m x c.row (reduced f.row) x1 xm c.under fr }

-- ---- steps one after another
-- a row without the variables holds on the rows that are left where it holds on the rows
pub all_kept_on : (m : ℕ) (ks : List ℕ) (rows : List (List ℤ)) (q : List ℤ) → Distinct ks → Within m ks → ((k : ℕ) → In k ks → HasFloor m k rows) → ((k : ℕ) → In k ks → entry q k ≡ pos 0) →
    HoldsOn (m + 1) rows q → HoldsOn (m + 1) (all_eliminated m ks rows) q
all_kept_on m [] rows q d w f z on = on
all_kept_on m (k ∷ ks) rows q d w f z on =
    let fk = f k (inl refl) in
    let wk = w k (inl refl) in
    all_kept_on m ks (eliminated m k rows) q d.1 (λ x i. w x (inr i))
    (λ x i. floor_stays m k x rows wk.0 wk.1 (w x (inr i)).0 (w x (inr i)).1 (d.0 x i) (f x (inr i)))
    (λ x i. z x (inr i))
    (kept_on m k rows fk.row q wk.0 wk.1 fk.here fk.floors (z k (inl refl)) on)

-- and the other way round
pub all_back_on : (m : ℕ) (ks : List ℕ) (rows : List (List ℤ)) (q : List ℤ) → Within m ks → HoldsOn (m + 1) (all_eliminated m ks rows) q → HoldsOn (m + 1) rows q
all_back_on m [] rows q w on = on
all_back_on m (k ∷ ks) rows q w on = back_on m k rows q (w k (inl refl)).1 (all_back_on m ks (eliminated m k rows) q (λ x i. w x (inr i)) on)

-- each row that is left holds on the rows
pub all_left_on : (m : ℕ) (ks : List ℕ) (rows : List (List ℤ)) (q : List ℤ) → Within m ks → In q (all_eliminated m ks rows) → HoldsOn (m + 1) rows q
all_left_on m ks rows q w i = all_back_on m ks rows q w (λ t w t1 lw h. from_All (λ r. Holds r t w) (all_eliminated m ks rows) q h i)

pub entry-crossed : (k j : ℕ) (r s : List ℤ) → entry (crossed k r s) j ≡
    pos (unsigned_abs (entry s k) / gcd (unsigned_abs (entry r k)) (unsigned_abs (entry s k))) *ℤ entry r j +ℤ pos (unsigned_abs (entry r k) / gcd (unsigned_abs (entry r k)) (unsigned_abs (entry s k))) *ℤ entry s j
unfolding crossed
entry-crossed k j r s =
    let g = gcd (unsigned_abs (entry r k)) (unsigned_abs (entry s k)) in
    entry-added (scaled (pos (unsigned_abs (entry s k) / g)) r) (scaled (pos (unsigned_abs (entry r k) / g)) s) j
    ∙ rw (entry-scaled (pos (unsigned_abs (entry s k) / g)) r j, entry-scaled (pos (unsigned_abs (entry r k) / g)) s j) refl

no_factor : (g : ℕ) (z : ℤ) → 0 < g → pos g *ℤ z ≡ pos 0 → z ≡ pos 0
no_factor zero z p e = absurd (omega arith)
no_factor (suc g) (pos zero) p e = refl
no_factor (suc g) (pos (suc n)) p e = absurd (omega (arith, ints))
no_factor (suc g) (negsuc n) p e = absurd (omega (arith, ints))

pub crossed_gone : (k : ℕ) (r s : List ℤ) → pos 1 ≤ℤ entry r k → entry s k <ℤ pos 0 → entry (crossed k r s) k ≡ pos 0
crossed_gone k r s pr ns =
    let a = unsigned_abs (entry r k) in
    let b = unsigned_abs (entry s k) in
    let g = gcd a b in
    let is = gcd_is a b in
    let gp : 0 < g = gcd-pos a b (omega (arith, ints)) in
    let ea : pos g *ℤ pos (a / g) ≡ entry r k = omega (arith, ints, mul-div_cancel' g is.0) in
    let eb : pos g *ℤ pos (b / g) ≡ pos 0 -ℤ entry s k = omega (arith, ints, mul-div_cancel' g is.1) in
    let all : pos g *ℤ (pos (b / g) *ℤ entry r k +ℤ pos (a / g) *ℤ entry s k) ≡ (pos g *ℤ pos (b / g)) *ℤ entry r k +ℤ (pos g *ℤ pos (a / g)) *ℤ entry s k = simp rings (omega (arith, ints)) in
    let both : (pos 0 -ℤ entry s k) *ℤ entry r k +ℤ entry r k *ℤ entry s k ≡ pos 0 = simp rings (omega (arith, ints)) in
    entry-crossed k k r s ∙ no_factor g _ gp (all ∙ rw (ea, eb) both)

pub crossed_none : (k j : ℕ) (r s : List ℤ) → entry r j ≡ pos 0 → entry s j ≡ pos 0 → entry (crossed k r s) j ≡ pos 0
crossed_none k j r s er es = entry-crossed k j r s ∙ rw (er, es) (omega (arith, ints))
