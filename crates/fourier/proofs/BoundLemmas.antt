-- Bounds and values, a number or a row at a time.
use Rattle.std.proofs.Common.{◌≡◌, ◌≢◌, ℕ, suc, ℤ, pos, List, [], ◌∷◌, ◌+◌, ◌<◌, ◌≤◌, Bool, true, false, cond, Option, Some, None, drop, length, get_or, refl, sym, ap, ◌∙◌, arith}
use Rattle.std.specs.Prelude.{◌≤ℤ◌, ◌*ℤ◌, int_lt}
use Rattle.std.specs.Ordering.{int_cmp, is_gt}
use Rattle.std.specs.declared.cmp.Ordering.{Ordering}
use Rattle.std.specs.declared.cmp.Ordering.TheVariants.{Less, Equal, Greater}
use Rattle.std.proofs.Math.Nat.{one-dvd}
use Rattle.std.proofs.Math.Seq.{drop-cons}
use Rattle.std.proofs.lemmas.Nat.Gcd.{same_from_IsGcd}
use Rattle.std.proofs.lemmas.Int.{ints}
use borrow.Author.Differences.{lt-true}
use Rattle.exact128.specs.Gcd.{gcd}
use Rattle.exact128.specs.Sums.{entry}
use Rattle.exact128.specs.Fractions.{Fraction, whole, then_do, product, quotient, sum, exceeds, shared_of, scaled_of, OrderFits}
use Rattle.exact128.proofs.Gcds.{gcd_is}
use Rattle.exact128.proofs.FitsLemmas.{either_bool}
use Rattle.exact128.proofs.FractionFits.{exceeds_some}
use Rattle.exact128.proofs.FractionOrders.{same_order}
use Rattle.linear_rows.specs.Elimination.{rising, is_positive}
use Rattle.linear_rows.specs.Solving.{sum_on, negated, bound, greatest}
use Rattle.sparse_rows.proofs.SparseLemmas.{drop-all}

pub gcd-one : (n : ℕ) → gcd n 1 ≡ 1
gcd-one n = same_from_IsGcd n 1 (gcd n 1) 1 (gcd_is n 1) (one-dvd n, one-dvd 1, λ d x y. y)

-- ---- comparing
greater_above : (l r : ℤ) → int_cmp l r ≡ Greater → int_lt r l ≡ true
greater_above l r e = look (int_lt l r) (int_lt r l) e
  where
    look : (a b : Bool) → cond a Less (cond b Greater Equal) ≡ Greater → b ≡ true
    look true b e = cc
    look false true e = refl
    look false false e = cc

not_above : (l r : ℤ) → int_cmp l r ≢ Greater → int_lt r l ≡ false
not_above l r h = either_bool (int_lt r l) (λ e. look (int_lt l r) refl e h)
  where
    look : (a : Bool) → int_lt l r ≡ a → int_lt r l ≡ true → int_cmp l r ≢ Greater → ⊥
    look true ea eb h = let p = lt-true l r ea in let q = lt-true r l eb in absurd (omega (arith, ints, p, q))
    look false ea eb h = h (rw (ea, eb) refl)

-- what the comparison of two fractions shows
compared : (x y : Fraction) → pos 1 ≤ℤ x.den → pos 1 ≤ℤ y.den → int_cmp (scaled_of x.num y.den (shared_of x.den y.den)) (scaled_of y.num x.den (shared_of x.den y.den)) ≡ int_cmp (x.num *ℤ y.den) (y.num *ℤ x.den)
compared x y px py = same_order x.num x.den y.num y.den _ _ (shared_of x.den y.den) px py refl refl refl

exceeds_greater : (x y : Fraction) → pos 1 ≤ℤ x.den → pos 1 ≤ℤ y.den → OrderFits x.num x.den y.num y.den → Greater ≡ int_cmp (x.num *ℤ y.den) (y.num *ℤ x.den) → exceeds x y ≡ Some true
exceeds_greater x y px py f e =
    exceeds_some x y f ∙ ap Some (greater_above (scaled_of x.num y.den (shared_of x.den y.den)) (scaled_of y.num x.den (shared_of x.den y.den)) (compared x y px py ∙ sym e))

exceeds_other : (x y : Fraction) (o : Ordering) → pos 1 ≤ℤ x.den → pos 1 ≤ℤ y.den → OrderFits x.num x.den y.num y.den → o ≢ Greater → o ≡ int_cmp (x.num *ℤ y.den) (y.num *ℤ x.den) → exceeds x y ≡ Some false
exceeds_other x y o px py f h e =
    exceeds_some x y f ∙ ap Some (not_above (scaled_of x.num y.den (shared_of x.den y.den)) (scaled_of y.num x.den (shared_of x.den y.den)) (λ g. h (e ∙ sym (compared x y px py) ∙ g)))

pub exceeds_is_gt : (x y : Fraction) (o : Ordering) → pos 1 ≤ℤ x.den → pos 1 ≤ℤ y.den → OrderFits x.num x.den y.num y.den → o ≡ int_cmp (x.num *ℤ y.den) (y.num *ℤ x.den) → exceeds x y ≡ Some (is_gt o)
exceeds_is_gt x y Greater px py f e = exceeds_greater x y px py f e
exceeds_is_gt x y Less px py f e = exceeds_other x y Less px py f (λ h. cc) e
exceeds_is_gt x y Equal px py f e = exceeds_other x y Equal px py f (λ h. cc) e

-- ---- sums
one_more_product : (s : Fraction) (a : ℤ) (cs : List ℤ) (v : Fraction) (vs : List Fraction) → sum_on s (a ∷ cs) (v ∷ vs) ≡ then_do (sum_on s (a ∷ []) (v ∷ [])) (λ z. sum_on z cs vs)
one_more_product s a cs v vs = look (product (whole a) v)
  where
    after : (o : Option Fraction) → then_do o (λ z. sum_on z cs vs) ≡ then_do (then_do o (λ z. Some z)) (λ z. sum_on z cs vs)
    after None = refl
    after (Some z) = refl

    look : (o : Option Fraction) → then_do o (λ p. then_do (sum s p) (λ z. sum_on z cs vs)) ≡ then_do (then_do o (λ p. then_do (sum s p) (λ z. Some z))) (λ z. sum_on z cs vs)
    look None = refl
    look (Some p) = after (sum s p)

-- the sum from places on, where a number and a value stand there
from_here : (s : Fraction) (row : List ℤ) (vs : List Fraction) (i j : ℕ) (v : Fraction) → i < length row → j < length vs → v ≡ get_or vs j v →
    sum_on s (drop i row) (drop j vs) ≡ then_do (sum_on s (entry row i ∷ []) (v ∷ [])) (λ z. sum_on z (drop (suc i) row) (drop (suc j) vs))
from_here s row vs i j v p q e =
    rw (drop-cons row i (pos 0) p, drop-cons vs j v q) (one_more_product s (entry row i) (drop (suc i) row) (get_or vs j v) (drop (suc j) vs) ∙ ap (λ x. then_do (sum_on s (entry row i ∷ []) (x ∷ [])) (λ z. sum_on z (drop (suc i) row) (drop (suc j) vs))) (sym e))

pub sum_goes_on : (s next : Fraction) (row : List ℤ) (vs : List Fraction) (from j : ℕ) (v : Fraction) (all : Option Fraction) → from + j < length row → j < length vs → v ≡ get_or vs j v →
    sum_on s (drop (from + j) row) (drop j vs) ≡ all → sum_on s (entry row (from + j) ∷ []) (v ∷ []) ≡ Some next → sum_on next (drop (from + (j + 1)) row) (drop (j + 1) vs) ≡ all
sum_goes_on s next row vs from j v all p q e is n =
    let a : from + (j + 1) ≡ suc (from + j) = omega arith in
    let b : j + 1 ≡ suc j = omega arith in
    rw (a, b) (sym (from_here s row vs (from + j) j v p q e ∙ ap (λ o. then_do o (λ z. sum_on z (drop (suc (from + j)) row) (drop (suc j) vs))) n) ∙ is)

pub sum_stops : (s : Fraction) (row : List ℤ) (vs : List Fraction) (from j : ℕ) (v : Fraction) (all : Option Fraction) → from + j < length row → j < length vs → v ≡ get_or vs j v →
    sum_on s (drop (from + j) row) (drop j vs) ≡ all → sum_on s (entry row (from + j) ∷ []) (v ∷ []) ≡ None → all ≡ None
sum_stops s row vs from j v all p q e is n =
    sym is ∙ from_here s row vs (from + j) j v p q e ∙ ap (λ o. then_do o (λ z. sum_on z (drop (suc (from + j)) row) (drop (suc j) vs))) n

pub sum_ends : (s : Fraction) (row : List ℤ) (vs : List Fraction) (i j : ℕ) (all : Option Fraction) → length vs ≤ j → sum_on s (drop i row) (drop j vs) ≡ all → all ≡ Some s
sum_ends s row vs i j all h is = sym is ∙ ap (sum_on s (drop i row)) (drop-all j vs h) ∙ nothing (drop i row)
  where
    nothing : (cs : List ℤ) → sum_on s cs [] ≡ Some s
    nothing [] = refl
    nothing (c ∷ cs) = refl

-- ---- bounds
pub bound_made : (k : ℕ) (vs : List Fraction) (r : List ℤ) (start s n d : Fraction) → start ≡ whole (entry r 0) → sum_on start (drop (k + 1) r) vs ≡ Some s → n ≡ negated s → d ≡ whole (entry r k) → quotient n d ≡ bound k vs r
unfolding bound
bound_made k vs r start s n d es is en ed =
    let one : k + 1 ≡ suc k = omega arith in
    let sum : sum_on (whole (entry r 0)) (drop (suc k) r) vs ≡ Some s = ap (λ x. sum_on x (drop (suc k) r) vs) (sym es) ∙ ap (λ i. sum_on start (drop i r) vs) (sym one) ∙ is in
    sym (ap (λ o. then_do o (λ s. quotient (negated s) (whole (entry r k)))) sum ∙ both_same (negated s) n (whole (entry r k)) d (sym en) (sym ed))
  where
    both_same : (x y z t : Fraction) → x ≡ y → z ≡ t → quotient x z ≡ quotient y t
    both_same x y z t e f = ap (λ x. quotient x z) e ∙ ap (quotient y) f

pub bound_none : (k : ℕ) (vs : List Fraction) (r : List ℤ) (start : Fraction) → start ≡ whole (entry r 0) → sum_on start (drop (k + 1) r) vs ≡ None → bound k vs r ≡ None
unfolding bound
bound_none k vs r start es is =
    let one : k + 1 ≡ suc k = omega arith in
    ap (λ o. then_do o (λ s. quotient (negated s) (whole (entry r k)))) (ap (λ x. sum_on x (drop (suc k) r) vs) (sym es) ∙ ap (λ i. sum_on start (drop i r) vs) (sym one) ∙ is)

-- ---- the greatest bound
one_more_row : (k : ℕ) (vs : List Fraction) (best : Fraction) (r : List ℤ) (rs : List (List ℤ)) → greatest k vs best (r ∷ rs) ≡ then_do (greatest k vs best (r ∷ [])) (λ b. greatest k vs b rs)
one_more_row k vs best r rs = look (bound k vs r)
  where
    after : (b : Fraction) (o : Option Bool) → then_do o (λ more. greatest k vs (cond more b best) rs) ≡ then_do (then_do o (λ more. Some (cond more b best))) (λ b. greatest k vs b rs)
    after b None = refl
    after b (Some more) = refl

    look : (o : Option Fraction) → then_do o (λ b. then_do (exceeds b best) (λ more. greatest k vs (cond more b best) rs)) ≡ then_do (then_do o (λ b. then_do (exceeds b best) (λ more. Some (cond more b best)))) (λ b. greatest k vs b rs)
    look None = refl
    look (Some b) = after b (exceeds b best)

rises_here : (k i : ℕ) (rows : List (List ℤ)) (r : List ℤ) (b : Bool) → i < length rows → r ≡ get_or rows i [] → is_positive (entry r k) ≡ b → rising k (drop i rows) ≡ cond b (r ∷ rising k (drop (suc i) rows)) (rising k (drop (suc i) rows))
rises_here k i rows r b h e is =
    rw (drop-cons rows i [] h, ← e, is) refl

pub greatest_goes_on : (k i : ℕ) (vs : List Fraction) (best next : Fraction) (rows : List (List ℤ)) (r : List ℤ) (all : Option Fraction) → i < length rows → r ≡ get_or rows i [] → is_positive (entry r k) ≡ true →
    greatest k vs best (rising k (drop i rows)) ≡ all → greatest k vs best (r ∷ []) ≡ Some next → greatest k vs next (rising k (drop (i + 1) rows)) ≡ all
greatest_goes_on k i vs best next rows r all h e p is n =
    let one : i + 1 ≡ suc i = omega arith in
    rw one (sym (ap (greatest k vs best) (rises_here k i rows r true h e p) ∙ one_more_row k vs best r (rising k (drop (suc i) rows)) ∙ ap (λ o. then_do o (λ b. greatest k vs b (rising k (drop (suc i) rows)))) n) ∙ is)

pub greatest_stops : (k i : ℕ) (vs : List Fraction) (best : Fraction) (rows : List (List ℤ)) (r : List ℤ) (all : Option Fraction) → i < length rows → r ≡ get_or rows i [] → is_positive (entry r k) ≡ true →
    greatest k vs best (rising k (drop i rows)) ≡ all → greatest k vs best (r ∷ []) ≡ None → all ≡ None
greatest_stops k i vs best rows r all h e p is n =
    sym is ∙ ap (greatest k vs best) (rises_here k i rows r true h e p) ∙ one_more_row k vs best r (rising k (drop (suc i) rows)) ∙ ap (λ o. then_do o (λ b. greatest k vs b (rising k (drop (suc i) rows)))) n

pub greatest_passes : (k i : ℕ) (vs : List Fraction) (best : Fraction) (rows : List (List ℤ)) (r : List ℤ) (all : Option Fraction) → i < length rows → r ≡ get_or rows i [] → is_positive (entry r k) ≡ false →
    greatest k vs best (rising k (drop i rows)) ≡ all → greatest k vs best (rising k (drop (i + 1) rows)) ≡ all
greatest_passes k i vs best rows r all h e p is =
    let one : i + 1 ≡ suc i = omega arith in
    rw one (sym (ap (greatest k vs best) (rises_here k i rows r false h e p)) ∙ is)

pub greatest_ends : (k i : ℕ) (vs : List Fraction) (best : Fraction) (rows : List (List ℤ)) (all : Option Fraction) → length rows ≤ i → greatest k vs best (rising k (drop i rows)) ≡ all → all ≡ Some best
greatest_ends k i vs best rows all h is = sym is ∙ ap (λ l. greatest k vs best (rising k l)) (drop-all i rows h)
