-- What a step leaves has numbers that fit, and as many in each row.
use Rattle.std.proofs.Common.{◌≡◌, ℕ, zero, suc, ℤ, pos, negsuc, List, [], ◌∷◌, ◌++◌, ◌+◌, ◌/◌, ◌≤◌, Bool, true, false, cond, ◌||◌, Option, Some, None, map, length, get_or, refl, sym, subst, ap, ◌∙◌, arith, inl, inr}
use Rattle.std.specs.Prelude.{All, filter, unsigned_abs, ◌*ℤ◌, int_div}
use Rattle.std.proofs.lemmas.Int.{ints}
use Rattle.std.proofs.lemmas.List.Elements.{All-nil, All-cons, All-head, All-tail}
use Rattle.std.proofs.Math.Nat.{div-le_self}
use lib.IntN.{neg_ℤ}
use Rattle.exact128.specs.Fits.{Fits}
use Rattle.exact128.specs.Gcd.{gcd}
use Rattle.exact128.specs.Sums.{entry}
use Rattle.linear_rows.specs.Elimination.{crossed, crossings, rising, falling, without, is_positive, is_negative, is_zero}
use Rattle.linear_rows.specs.RowSums.{scaled}
use Rattle.linear_rows.specs.Cleaning.{row_gcd}
use Rattle.linear_rows.specs.Equation.{equation_from, other_places, solved_row, solved_rows, combinations_by, step}
use Rattle.linear_rows.specs.Blown.{all_of, crossed_fits, solved_fits, crossings_fit, solved_rows_fit, combinations_fit, step_fits}
use Rattle.linear_rows.specs.Step.{eliminated}
use Rattle.sparse_rows.specs.Adding.{AllFit, AllLong}
use Rattle.linear_rows.specs.Members.{In}
use Rattle.linear_rows.proofs.Members.{of-filter, of-append, of-map, of-flat_map, from_All, to_All}
use Rattle.exact128.proofs.FitsLemmas.{both}
use Rattle.linear_rows.proofs.Places.{IsEquation, equation_is, in-at, of-others}
use Rattle.linear_rows.proofs.Whole.{of-cleaned}
use Rattle.linear_rows.proofs.Origins.{step_origin}
use Rattle.fourier.proofs.Loops.{crossed_fit}
use Rattle.linear_rows.proofs.Carries.{length-map-of, length-added}

all_in : {X : Type 0} (p : X → Bool) (xs : List X) (x : X) → all_of p xs ≡ true → In x xs → p x ≡ true
all_in p [] x e h = absurd h
all_in p (y ∷ ys) x e (inl is) = ap p (sym is) ∙ (both (p y) (all_of p ys) e).0
all_in p (y ∷ ys) x e (inr h) = all_in p ys x (both (p y) (all_of p ys) e).1 h

-- ---- dividing
div_fits : (x : ℤ) (g : ℕ) → Fits x → Fits (int_div x (pos g))
div_fits (pos n) g h = let l = div-le_self n g in omega arith
div_fits (negsuc n) g h = let l = div-le_self (suc n) g in omega (arith, ints, abs_neg (pos (suc n / g)))
  where
    abs_neg : (z : ℤ) → unsigned_abs (neg_ℤ z) ≡ unsigned_abs z
    abs_neg (pos zero) = refl
    abs_neg (pos (suc n)) = refl
    abs_neg (negsuc n) = refl

divided_fit : (g : ℕ) (row : List ℤ) → All Fits row → All Fits (map (λ x. int_div x (pos g)) row)
divided_fit g [] h = All-nil Fits
divided_fit g (x ∷ xs) h = All-cons Fits (int_div x (pos g)) (map (λ x. int_div x (pos g)) xs) (div_fits x g (All-head Fits x xs h)) (divided_fit g xs (All-tail Fits x xs h))

length-crossed : (k : ℕ) (r s : List ℤ) → length r ≡ length s → length (crossed k r s) ≡ length r
unfolding crossed
length-crossed k r s e =
    let g = gcd (unsigned_abs (entry r k)) (unsigned_abs (entry s k)) in
    let a = scaled (pos (unsigned_abs (entry s k) / g)) r in
    let b = scaled (pos (unsigned_abs (entry r k) / g)) s in
    let la : length a ≡ length r = length-map-of (λ x. pos (unsigned_abs (entry s k) / g) *ℤ x) r in
    let lb : length b ≡ length s = length-map-of (λ x. pos (unsigned_abs (entry r k) / g) *ℤ x) s in
    length-added a b (la ∙ e ∙ sym lb) ∙ la

pub long_stays : (n m k : ℕ) (rows : List (List ℤ)) → k ≤ m → AllLong n rows → AllLong n (eliminated m k rows)
long_stays n m k rows km h = to_All (λ r. length r ≡ n) (eliminated m k rows) (λ q i.
    let y = of-cleaned m (step (m + 1) k rows) q i in
    let ly : length y.0 ≡ n = elim (step_origin (m + 1) k rows y.0 (omega arith) y.1) [
      | inl a ↦ from_All (λ r. length r ≡ n) rows y.0 h a.0
      | inr p ↦
          let lu = from_All (λ r. length r ≡ n) rows p.up h p.up_in in
          let ld = from_All (λ r. length r ≡ n) rows p.down h p.down_in in
          ap length (sym p.is) ∙ length-crossed k p.up p.down (lu ∙ sym ld) ∙ lu
    ] in
    ap length (sym y.2) ∙ length-map-of (λ x. int_div x (pos (row_gcd y.0))) y.0 ∙ ly)

-- ---- the new rows fit
crossing_fit : (n k : ℕ) (rows : List (List ℤ)) (q : List ℤ) → AllLong n rows → crossings_fit k rows ≡ true → In q (crossings k rows) → All Fits q
unfolding crossings crossings_fit
crossing_fit n k rows q h e b =
    let x = of-flat_map (λ r. map (λ s. crossed k r s) (falling k rows)) (rising k rows) q b in
    let up = of-filter (λ r. is_positive (entry r k)) rows x.0 x.1 in
    let y = of-map (λ s. crossed k x.0 s) (falling k rows) q x.2 in
    let down = of-filter (λ s. is_negative (entry s k)) rows y.0 y.1 in
    let one = all_in (λ r. all_of (crossed_fits k r) (falling k rows)) (rising k rows) x.0 e x.1 in
    let two = all_in (crossed_fits k x.0) (falling k rows) y.0 one y.1 in
    crossed_fit k x.0 y.0 q (from_All (λ r. length r ≡ n) rows x.0 h up.0 ∙ sym (from_All (λ r. length r ≡ n) rows y.0 h down.0)) two (sym y.2)

solved_row_fit : (n k i j : ℕ) (rows : List (List ℤ)) (q : List ℤ) → AllLong n rows → (c : ℕ) → IsEquation c k rows i j → solved_rows_fit k i j rows ≡ true → In q (solved_rows k i j rows) → All Fits q
unfolding solved_rows solved_rows_fit
solved_row_fit n k i j rows q h c is e m =
    let y = of-map (solved_row k (get_or rows i []) (get_or rows j [])) (filter (λ q. is_positive (entry q k) || is_negative (entry q k)) (other_places 0 i j rows)) q m in
    let f = of-filter (λ q. is_positive (entry q k) || is_negative (entry q k)) (other_places 0 i j rows) y.0 y.1 in
    let ly = from_All (λ r. length r ≡ n) rows y.0 h (of-others 0 i j rows y.0 f.0) in
    let lr = from_All (λ r. length r ≡ n) rows (get_or rows i []) h (in-at rows i [] is.i_within) in
    let ls = from_All (λ r. length r ≡ n) rows (get_or rows j []) h (in-at rows j [] is.j_within) in
    let one = all_in (solved_fits k (get_or rows i []) (get_or rows j [])) (filter (λ q. is_positive (entry q k) || is_negative (entry q k)) (other_places 0 i j rows)) y.0 e y.1 in
    look y.0 (is_negative (entry y.0 k)) (lr ∙ sym ly) (ly ∙ sym ls) one (sym y.2)
  where
    look : (p : List ℤ) (b : Bool) → length (get_or rows i []) ≡ length p → length p ≡ length (get_or rows j []) → cond b (crossed_fits k (get_or rows i []) p) (crossed_fits k p (get_or rows j [])) ≡ true →
        q ≡ cond b (crossed k (get_or rows i []) p) (crossed k p (get_or rows j [])) → All Fits q
    look p true l1 l2 e eq = crossed_fit k (get_or rows i []) p q l1 e eq
    look p false l1 l2 e eq = crossed_fit k p (get_or rows j []) q l2 e eq

pub fit_stays : (n m k : ℕ) (rows : List (List ℤ)) → AllLong n rows → AllFit rows → step_fits m k rows ≡ true → AllFit (eliminated m k rows)
unfolding step_fits
fit_stays n m k rows l h e = to_All (λ r. All Fits r) (eliminated m k rows) (λ q i.
    let y = of-cleaned m (step (m + 1) k rows) q i in
    subst (All Fits) y.2 (divided_fit (row_gcd y.0) y.0 (look (equation_from (m + 1) k rows 0 rows) refl e y.0 y.1)))
  where
    look : (o : Option (ℕ × ℕ)) → equation_from (m + 1) k rows 0 rows ≡ o → combinations_fit o k rows ≡ true → (q : List ℤ) → In q (without k rows ++ combinations_by o k rows) → All Fits q
    look None is e q i = elim (of-append (without k rows) (crossings k rows) q i) [
      | inl a ↦ from_All (λ r. All Fits r) rows q h (of-filter (λ r. is_zero (entry r k)) rows q a).0
      | inr b ↦ crossing_fit n k rows q l e b
    ]
    look (Some (a, b)) is e q i = elim (of-append (without k rows) (solved_rows k a b rows) q i) [
      | inl c ↦ from_All (λ r. All Fits r) rows q h (of-filter (λ r. is_zero (entry r k)) rows q c).0
      | inr c ↦ solved_row_fit n k a b rows q l (m + 1) (equation_is (m + 1) k rows a b is) e c
    ]
