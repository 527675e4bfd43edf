-- Cleaning keeps what the rows say at each point.
use Rattle.std.proofs.Common.{◌≡◌, ℕ, zero, suc, ℤ, pos, negsuc, List, [], ◌∷◌, ◌++◌, ◌*◌, ◌/◌, ◌<◌, ◌≤◌, ◌+ℤ◌, ◌*ℤ◌, Bool, true, false, cond, not, ◌||◌, map, length, refl, sym, subst, ap, ◌∙◌, arith, inl, inr}
use Rattle.std.specs.Prelude.{◌≤ℤ◌, unsigned_abs, int_le, int_div, filter, fold, not, ◌&&◌}
use Rattle.std.specs.Int.{◌∣◌}
use Rattle.std.specs.Cmp.Derive.{both_true}
use Rattle.std.proofs.lemmas.List.Elements.{All-nil, All-cons}
use lib.IntN.{neg_ℤ}
use Rattle.std.proofs.lemmas.Int.{ints}
use Rattle.std.proofs.lemmas.Nat.Gcd.{dvd_trans}
use Rattle.std.proofs.Math.Nat.{div-zero, mul-div_cancel'}
use Rattle.exact128.proofs.Gcds.{gcd_is}
use Rattle.exact128.proofs.Rings.{rings, mul_nonneg, nonneg_factor, mul_mono}
use Rattle.exact128.specs.Sums.{entry, dot}
use Rattle.linear_rows.specs.Rows.{Holds, AllHold}
use Rattle.linear_rows.specs.Cleaning.{row_gcd, reduced, int_same, agree, is_trivial, insert_row, cleaned}
use Rattle.linear_rows.proofs.Projection.{value}
use Rattle.linear_rows.specs.Members.{In}
use Rattle.linear_rows.proofs.Members.{in-filter, in-left, in-right, in-map, from_All, to_All}

pub same_from : (a b : ℤ) → int_same a b ≡ true → a ≡ b
same_from (pos a) (pos b) e = ap pos (grind arith)
same_from (pos a) (negsuc b) e = cc
same_from (negsuc a) (pos b) e = cc
same_from (negsuc a) (negsuc b) e = ap negsuc (grind arith)

pub both : (a b : Bool) → (a && b) ≡ true → (a ≡ true) × (b ≡ true)
both true b e = (refl, e)
both false b e = cc

neither : (a b : Bool) → (a || b) ≡ false → (a ≡ false) × (b ≡ false)
neither true b e = cc
neither false b e = (refl, e)

pub agree_at : (m : ℕ) (r s : List ℤ) (j : ℕ) → agree m r s ≡ true → 1 ≤ j → j ≤ m → entry r j ≡ entry s j
agree_at zero r s j e low high = absurd (omega arith)
agree_at (suc m) r s j e low high =
    let two = both (int_same (entry r (suc m)) (entry s (suc m))) (agree m r s) e in
    grind (arith, agree_at m r s j two.1, same_from (entry r (suc m)) (entry s (suc m)) two.0)

-- every entry is a multiple of the divisor
pub divides_all : (row : List ℤ) (x : ℤ) → In x row → row_gcd row ∣ unsigned_abs x
unfolding row_gcd
divides_all [] x h = absurd h
divides_all (y ∷ ys) x (inl is) = subst (λ z. row_gcd (y ∷ ys) ∣ unsigned_abs z) is (gcd_is (unsigned_abs y) (row_gcd ys)).0
divides_all (y ∷ ys) x (inr h) = dvd_trans _ (gcd_is (unsigned_abs y) (row_gcd ys)).1 (divides_all ys x h)

pub exact_div : (x : ℤ) (g : ℕ) → g ∣ unsigned_abs x → pos g *ℤ int_div x (pos g) ≡ x
exact_div (pos n) g e = ap pos (mul-div_cancel' g e)
exact_div (negsuc n) g e =
    let back = mul-div_cancel' g e in
    let turned : pos g *ℤ neg_ℤ (pos (suc n / g)) ≡ neg_ℤ (pos (g * (suc n / g))) = simp rings (omega (arith, ints)) in
    turned ∙ ap (λ k. neg_ℤ (pos k)) back

-- the row is its divisor times the reduced row, at each point
pub value_reduced : (g : ℕ) (row ps : List ℤ) → ((x : ℤ) → In x row → g ∣ unsigned_abs x) → pos g *ℤ dot (map (λ x. int_div x (pos g)) row) ps ≡ dot row ps
unfolding dot
value_reduced g [] ps h = omega (arith, ints)
value_reduced g (x ∷ xs) [] h = omega (arith, ints)
value_reduced g (x ∷ xs) (p ∷ ps) h =
    let here = exact_div x g (h x (inl refl)) in
    let later = value_reduced g xs ps (λ y i. h y (inr i)) in
    let split : pos g *ℤ (int_div x (pos g) *ℤ p +ℤ dot (map (λ x. int_div x (pos g)) xs) ps) ≡ (pos g *ℤ int_div x (pos g)) *ℤ p +ℤ pos g *ℤ dot (map (λ x. int_div x (pos g)) xs) ps = simp rings (omega (arith, ints)) in
    split ∙ rw (here, later) refl

pub none : (x : ℤ) → int_div x (pos 0) ≡ pos 0
none (pos n) = ap pos (div-zero n)
none (negsuc n) = ap (λ k. neg_ℤ (pos k)) (div-zero (suc n))

pub value_none : (row ps : List ℤ) → dot (map (λ x. int_div x (pos 0)) row) ps ≡ pos 0
unfolding dot
value_none [] ps = refl
value_none (x ∷ xs) [] = refl
value_none (x ∷ xs) (p ∷ ps) = rw (none x, value_none xs ps) (omega (arith, ints))

-- a row whose divisor is 0 is 0 everywhere
pub reduced_holds : (row : List ℤ) (t : ℕ) (w : List ℕ) → Holds row t w → Holds (reduced row) t w
reduced_holds row t w h = turn (row_gcd row) (value_reduced (row_gcd row) row (pos t ∷ map pos w) (divides_all row))
  where
    turn : (g : ℕ) → pos g *ℤ dot (map (λ x. int_div x (pos g)) row) (pos t ∷ map pos w) ≡ dot row (pos t ∷ map pos w) → pos 0 ≤ℤ dot (map (λ x. int_div x (pos g)) row) (pos t ∷ map pos w)
    turn zero e = rw (value_none row (pos t ∷ map pos w)) (omega (arith, ints))
    turn (suc g) e = nonneg_factor g _ (rw e h)

holds_reduced : (row : List ℤ) (t : ℕ) (w : List ℕ) → Holds (reduced row) t w → Holds row t w
holds_reduced row t w h =
    rw (← value_reduced (row_gcd row) row (pos t ∷ map pos w) (divides_all row)) (mul_nonneg (pos (row_gcd row)) _ (omega (arith, ints)) h)

-- ---- needless rows
pub dot-le : (xs ys : List ℤ) (ps : List ℕ) → ((k : ℕ) → k < length ps → entry xs k ≤ℤ entry ys k) → value xs ps ≤ℤ value ys ps
unfolding dot
dot-le [] [] ps h = omega (arith, ints)
dot-le [] (y ∷ ys) [] h = omega (arith, ints)
dot-le [] (y ∷ ys) (p ∷ ps) h =
    let here = mul_mono (pos 0) y p (h 0 (omega arith)) in
    let later = dot-le [] ys ps (λ k l. h (suc k) (omega arith)) in
    omega (arith, ints)
dot-le (x ∷ xs) [] [] h = omega (arith, ints)
dot-le (x ∷ xs) [] (p ∷ ps) h =
    let here = mul_mono x (pos 0) p (h 0 (omega arith)) in
    let later = dot-le xs [] ps (λ k l. h (suc k) (omega arith)) in
    omega (arith, ints)
dot-le (x ∷ xs) (y ∷ ys) [] h = omega (arith, ints)
dot-le (x ∷ xs) (y ∷ ys) (p ∷ ps) h =
    let here = mul_mono x y p (h 0 (omega arith)) in
    let later = dot-le xs ys ps (λ k l. h (suc k) (omega arith)) in
    omega (arith, ints)

column_le : (m : ℕ) (r s : List ℤ) (k : ℕ) → agree m s r ≡ true → entry r 0 ≤ℤ entry s 0 → k ≤ m → entry r k ≤ℤ entry s k
column_le m r s zero e first h = first
column_le m r s (suc k) e first h = let is = agree_at m s r (suc k) e (omega arith) h in omega (arith, ints)

trivial_le : (m : ℕ) (r : List ℤ) (k : ℕ) → agree m r [] ≡ true → pos 0 ≤ℤ entry r 0 → k ≤ m → pos 0 ≤ℤ entry r k
trivial_le m r zero e first h = first
trivial_le m r (suc k) e first h = let is : entry r (suc k) ≡ pos 0 = agree_at m r [] (suc k) e (omega arith) h in omega (arith, ints)

-- a row that makes another needless: the same coefficients, and no greater constant
abbrev pub beats : ℕ → List ℤ → List ℤ → Bool
beats m r s = agree m s r && int_le (entry r 0) (entry s 0)

-- where the better row holds, the other does
beaten_holds : (m : ℕ) (r s : List ℤ) (t : ℕ) (w : List ℕ) → length w ≡ m → beats m r s ≡ true → Holds r t w → Holds s t w
beaten_holds m r s t w lw e h =
    let two = both (agree m s r) (int_le (entry r 0) (entry s 0)) e in
    let first : entry r 0 ≤ℤ entry s 0 = omega (arith, ints, two.1) in
    let below = dot-le r s (t ∷ w) (λ k l. column_le m r s k two.0 first (omega arith)) in
    omega (arith, ints, below)

trivial_holds : (m : ℕ) (r : List ℤ) (t : ℕ) (w : List ℕ) → length w ≡ m → is_trivial m r ≡ true → Holds r t w
unfolding dot
trivial_holds m r t w lw e =
    let two = both (agree m r []) (int_le (pos 0) (entry r 0)) e in
    let below = dot-le [] r (t ∷ w) (λ k l. trivial_le m r k two.0 (omega (arith, ints, two.1)) (omega arith)) in
    omega (arith, ints, below)

-- ---- one more row
pub same_to : (a b : ℤ) → a ≡ b → int_same a b ≡ true
same_to (pos a) b e = subst (λ c. int_same (pos a) c ≡ true) e (grind arith)
same_to (negsuc a) b e = subst (λ c. int_same (negsuc a) c ≡ true) e (grind arith)

pub agree_swap : (m : ℕ) (r s : List ℤ) → agree m r s ≡ true → agree m s r ≡ true
agree_swap zero r s e = refl
agree_swap (suc m) r s e =
    let two = both (int_same (entry r (suc m)) (entry s (suc m))) (agree m r s) e in
    both_true (same_to (entry s (suc m)) (entry r (suc m)) (sym (same_from (entry r (suc m)) (entry s (suc m)) two.0))) (agree_swap m r s two.1)

pub flipped : (a b : ℤ) → int_le a b ≡ false → int_le b a ≡ true
flipped a b e = search (arith, ints)

one_of : (m : ℕ) (r : List ℤ) (rows : List (List ℤ)) (t : ℕ) (w : List ℕ) → length w ≡ m → In r rows → (b : Bool) → is_trivial m r ≡ b → AllHold (filter (λ r. not (is_trivial m r)) rows) t w → Holds r t w
one_of m r rows t w lw i true e h = trivial_holds m r t w lw e
one_of m r rows t w lw i false e h = from_All (λ r. Holds r t w) (filter (λ r. not (is_trivial m r)) rows) r h (in-filter (λ r. not (is_trivial m r)) rows r (ap not e) i)

pub inserted_hold : (m : ℕ) (kept : List (List ℤ)) (row : List ℤ) (t : ℕ) (w : List ℕ) → length w ≡ m → AllHold (insert_row m kept row) t w → AllHold kept t w × Holds row t w
inserted_hold m [] row t w lw h = (All-nil (λ r. Holds r t w), from_All (λ r. Holds r t w) (row ∷ []) row h (inl refl))
inserted_hold m (r ∷ rs) row t w lw h = look (agree m r row) refl (int_le (entry r 0) (entry row 0)) refl h (inserted_hold m rs row t w lw)
  where
    look : (a : Bool) → agree m r row ≡ a → (b : Bool) → int_le (entry r 0) (entry row 0) ≡ b → AllHold (cond a (cond b (r ∷ rs) (rs ++ row ∷ [])) (r ∷ insert_row m rs row)) t w →
        (AllHold (insert_row m rs row) t w → AllHold rs t w × Holds row t w) → AllHold (r ∷ rs) t w × Holds row t w
    look true ea true eb h next = (h, beaten_holds m r row t w lw (both_true (agree_swap m r row ea) eb) (from_All (λ r. Holds r t w) (r ∷ rs) r h (inl refl)))
    look true ea false eb h next =
        let here = from_All (λ r. Holds r t w) (rs ++ row ∷ []) row h (in-right rs (row ∷ []) row (inl refl)) in
        let old = beaten_holds m row r t w lw (both_true ea (flipped (entry r 0) (entry row 0) eb)) here in
        (All-cons (λ r. Holds r t w) r rs old (to_All (λ r. Holds r t w) rs (λ x i. from_All (λ r. Holds r t w) (rs ++ row ∷ []) x h (in-left rs (row ∷ []) x i))), here)
    look false ea b eb h next =
        let two = next (to_All (λ r. Holds r t w) (insert_row m rs row) (λ x i. from_All (λ r. Holds r t w) (r ∷ insert_row m rs row) x h (inr i))) in
        (All-cons (λ r. Holds r t w) r rs (from_All (λ r. Holds r t w) (r ∷ insert_row m rs row) r h (inl refl)) two.0, two.1)

pub all_hold : (m : ℕ) (kept rows : List (List ℤ)) (t : ℕ) (w : List ℕ) → length w ≡ m → AllHold (fold (insert_row m) kept rows) t w → AllHold kept t w × AllHold rows t w
all_hold m kept [] t w lw h = (h, All-nil (λ r. Holds r t w))
all_hold m kept (row ∷ rows) t w lw h =
    let two = all_hold m (insert_row m kept row) rows t w lw h in
    let one = inserted_hold m kept row t w lw two.0 in
    (one.0, All-cons (λ r. Holds r t w) row rows one.1 two.1)

-- where the cleaned rows hold, all rows hold
pub cleaned_all : (m : ℕ) (rows : List (List ℤ)) (t : ℕ) (w : List ℕ) → length w ≡ m → AllHold (cleaned m rows) t w → AllHold rows t w
cleaned_all m rows t w lw h =
    let Here : List ℤ → Type 0 = λ r. Holds r t w in
    let kept = (all_hold m [] (filter (λ r. not (is_trivial m r)) (map reduced rows)) t w lw h).1 in
    to_All Here rows (λ r i. holds_reduced r t w (one_of m (reduced r) (map reduced rows) t w lw (in-map reduced rows r i) (is_trivial m (reduced r)) refl kept))
