-- A step says what the rows say of the other variables, and so do steps one after another.
use Rattle.std.proofs.Common.{◌≡◌, ℕ, ℤ, pos, List, [], ◌∷◌, ◌++◌, ◌+◌, ◌<◌, ◌≤◌, Bool, true, false, cond, not, ◌||◌, Option, Some, None, map, length, get_or, refl, subst, arith, inl, inr, ◌⊎◌}
use Rattle.std.specs.Prelude.{◌≤ℤ◌, ◌<ℤ◌, filter, fold, int_le}
use Rattle.std.proofs.lemmas.Int.{ints}
use Rattle.exact128.specs.Sums.{entry}
use Rattle.linear_rows.specs.Rows.{Holds, AllHold, HoldsOn}
use Rattle.linear_rows.specs.Elimination.{is_positive, is_negative, is_zero, without, crossed}
use Rattle.linear_rows.specs.Cleaning.{reduced, agree, is_trivial, insert_row, cleaned}
use Rattle.linear_rows.specs.Equation.{negates, equation_from, other_places, solved_row, solved_rows, combinations_by, step}
use Rattle.linear_rows.specs.Step.{eliminated, Floors}
use Rattle.linear_rows.specs.Members.{In}
use Rattle.linear_rows.proofs.Members.{in-filter, of-filter, in-left, in-right, of-append, in-map, of-map, from_All, to_All}
use Rattle.linear_rows.proofs.Projection.{Bounds}
use Rattle.linear_rows.proofs.Bounding.{crossed_holds, crossed_bounds}
use Rattle.linear_rows.proofs.Cleanings.{reduced_holds, cleaned_all}
use Rattle.linear_rows.proofs.Steps.{Guide, guide_crossed, guided, left_hold, positive_is, negative_is, zero_is, Sign, sign_of, zero_bounds}
use Rattle.linear_rows.proofs.Equations.{negates_at, equation_bounds, negation_bounds}
use Rattle.linear_rows.proofs.Places.{IsEquation, equation_is, in-at, of-others, in-others}

-- ---- the step with an equation
or-left : (a b : Bool) → a ≡ true → (a || b) ≡ true
or-left a b e = rw e refl

or-right : (a b : Bool) → b ≡ true → (a || b) ≡ true
or-right true b e = refl
or-right false b e = e

falls_not : (z : ℤ) → is_positive z ≡ true → is_negative z ≡ false
falls_not z e = search (arith, ints)

pub or_either : (a b : Bool) → (a || b) ≡ true → (a ≡ true) ⊎ (b ≡ true)
or_either true b e = inl refl
or_either false b e = inr e

pub opposite_falls : (n k : ℕ) (r s : List ℤ) → k < n → pos 1 ≤ℤ entry r k → negates n r s ≡ true → entry s k <ℤ pos 0
opposite_falls n k r s lt up e = let at = negates_at n r s k e lt in omega (arith, ints, at)

-- each new row holds where the rows hold
solved_hold : (n k i j : ℕ) (rows : List (List ℤ)) (t : ℕ) (w : List ℕ) → k < n → IsEquation n k rows i j → AllHold rows t w → (q : List ℤ) → In q (solved_rows k i j rows) → Holds q t w
unfolding solved_rows
solved_hold n k i j rows t w lt is h q m =
    let Here : List ℤ → Type 0 = λ r. Holds r t w in
    let r = get_or rows i [] in
    let s = get_or rows j [] in
    let y = of-map (solved_row k r s) (filter (λ q. is_positive (entry q k) || is_negative (entry q k)) (other_places 0 i j rows)) q m in
    let f = of-filter (λ q. is_positive (entry q k) || is_negative (entry q k)) (other_places 0 i j rows) y.0 y.1 in
    let hr = from_All Here rows r h (in-at rows i [] is.i_within) in
    let hs = from_All Here rows s h (in-at rows j [] is.j_within) in
    let hq = from_All Here rows y.0 h (of-others 0 i j rows y.0 f.0) in
    let up = positive_is _ is.rises in
    let down = opposite_falls n k r s lt up is.opposite in
    subst Here y.2 (look y.0 hr hs hq up down f.1 (is_negative (entry y.0 k)) refl)
  where
    look : (q : List ℤ) → Holds (get_or rows i []) t w → Holds (get_or rows j []) t w → Holds q t w → pos 1 ≤ℤ entry (get_or rows i []) k → entry (get_or rows j []) k <ℤ pos 0 →
        (is_positive (entry q k) || is_negative (entry q k)) ≡ true → (b : Bool) → is_negative (entry q k) ≡ b → Holds (cond b (crossed k (get_or rows i []) q) (crossed k q (get_or rows j []))) t w
    look q hr hs hq up down e true n = crossed_holds k (get_or rows i []) q (t ∷ w) up (negative_is _ n) hr hq
    look q hr hs hq up down e false n =
        let p : is_positive (entry q k) ≡ true = elim (or_either (is_positive (entry q k)) (is_negative (entry q k)) e) [ inl a ↦ a | inr b ↦ cc ] in
        crossed_holds k q (get_or rows j []) (t ∷ w) (positive_is _ p) down hq hs

-- the equation bounds the column best
guide_solved : (n k i j : ℕ) (rows : List (List ℤ)) (t : ℕ) (w : List ℕ) → k < n → length w + 1 ≡ n → IsEquation n k rows i j → AllHold (without k rows ++ solved_rows k i j rows) t w → Guide k (t ∷ w) rows
unfolding solved_rows
guide_solved n k i j rows t w lt lw is h =
    record {
      row = get_or rows i [];
      here = in-at rows i [] is.i_within;
      rises = positive_is _ is.rises;
      bounds = to_All (Bounds k (t ∷ w) (get_or rows i [])) rows (λ q m. elim (in-others i j rows q m) [
        | inl e ↦ subst (Bounds k (t ∷ w) (get_or rows i [])) e (omega (arith, ints))
        | inr o ↦ elim o [
          | inl e ↦ subst (Bounds k (t ∷ w) (get_or rows i [])) e (negation_bounds n k (get_or rows i []) (get_or rows j []) (t ∷ w) (omega arith) lt is.opposite)
          | inr x ↦ other q m x (sign_of (entry q k))
        ]
      ]);
    }
  where
    new : (q : List ℤ) → In q (other_places 0 i j rows) → (is_positive (entry q k) || is_negative (entry q k)) ≡ true → Holds (solved_row k (get_or rows i []) (get_or rows j []) q) t w
    new q x e = from_All (λ r. Holds r t w) (without k rows ++ solved_rows k i j rows) (solved_row k (get_or rows i []) (get_or rows j []) q) h
        (in-right (without k rows) (solved_rows k i j rows) (solved_row k (get_or rows i []) (get_or rows j []) q) (in-map (solved_row k (get_or rows i []) (get_or rows j [])) (filter (λ q. is_positive (entry q k) || is_negative (entry q k)) (other_places 0 i j rows)) q (in-filter (λ q. is_positive (entry q k) || is_negative (entry q k)) (other_places 0 i j rows) q e x)))

    other : (q : List ℤ) → In q rows → In q (other_places 0 i j rows) → Sign (entry q k) → Bounds k (t ∷ w) (get_or rows i []) q
    other q m x (inl p) =
        let c = new q x (or-left (is_positive (entry q k)) (is_negative (entry q k)) p) in
        let nf : is_negative (entry q k) ≡ false = falls_not (entry q k) p in
        equation_bounds n k (get_or rows i []) (get_or rows j []) q (t ∷ w) (omega arith) lt is.opposite (positive_is (entry (get_or rows i []) k) is.rises) (positive_is (entry q k) p) (rw nf at c)
    other q m x (inr (inl p)) =
        let c = new q x (or-right (is_positive (entry q k)) (is_negative (entry q k)) p) in
        crossed_bounds k (get_or rows i []) q (t ∷ w) (omega arith) (positive_is (entry (get_or rows i []) k) is.rises) (negative_is (entry q k) p) (rw p at c)
    other q m x (inr (inr z)) =
        zero_bounds k (get_or rows i []) q (t ∷ w) (omega arith) (positive_is (entry (get_or rows i []) k) is.rises) (zero_is (entry q k) z)
        (from_All (λ r. Holds r t w) (without k rows ++ solved_rows k i j rows) q h (in-left (without k rows) (solved_rows k i j rows) q (in-filter (λ r. is_zero (entry r k)) rows q z m)))

-- ---- a step of either kind
pub step_holds : (n k : ℕ) (rows : List (List ℤ)) (t : ℕ) (w : List ℕ) → k < n → AllHold rows t w → AllHold (step n k rows) t w
step_holds n k rows t w lt h = look (equation_from n k rows 0 rows) refl
  where
    look : (o : Option (ℕ × ℕ)) → equation_from n k rows 0 rows ≡ o → AllHold (without k rows ++ combinations_by o k rows) t w
    look None e = left_hold k rows t w h
    look (Some (i, j)) e = to_All (λ r. Holds r t w) (without k rows ++ solved_rows k i j rows) (λ q m. elim (of-append (without k rows) (solved_rows k i j rows) q m) [
      | inl a ↦ from_All (λ r. Holds r t w) rows q h (of-filter _ rows q a).0
      | inr b ↦ solved_hold n k i j rows t w lt (equation_is n k rows i j e) h q b
    ])

pub guide_of : (n k : ℕ) (rows : List (List ℤ)) (floor : List ℤ) (t : ℕ) (w : List ℕ) → k < n → length w + 1 ≡ n → In floor rows → pos 1 ≤ℤ entry floor k → AllHold (step n k rows) t w → Guide k (t ∷ w) rows
guide_of n k rows floor t w lt lw fi ff h = look (equation_from n k rows 0 rows) refl h
  where
    look : (o : Option (ℕ × ℕ)) → equation_from n k rows 0 rows ≡ o → AllHold (without k rows ++ combinations_by o k rows) t w → Guide k (t ∷ w) rows
    look None e h = guide_crossed k rows floor t w (omega arith) fi ff h
    look (Some (i, j)) e h = guide_solved n k i j rows t w lt lw (equation_is n k rows i j e) h

in_inserted : (m : ℕ) (kept : List (List ℤ)) (row x : List ℤ) → In x (insert_row m kept row) → In x kept ⊎ (row ≡ x)
in_inserted m [] row x (inl is) = inr is
in_inserted m [] row x (inr h) = absurd h
in_inserted m (r ∷ rs) row x h = look (agree m r row) (int_le (entry r 0) (entry row 0)) h (in_inserted m rs row x)
  where
    look : (a b : Bool) → In x (cond a (cond b (r ∷ rs) (rs ++ row ∷ [])) (r ∷ insert_row m rs row)) → (In x (insert_row m rs row) → In x rs ⊎ (row ≡ x)) → In x (r ∷ rs) ⊎ (row ≡ x)
    look true true h next = inl h
    look true false h next = elim (of-append rs (row ∷ []) x h) [
      | inl l ↦ inl (inr l)
      | inr y ↦ elim y [ inl is ↦ inr is | inr no_more ↦ absurd no_more ]
    ]
    look false b (inl is) next = inl (inl is)
    look false b (inr h) next = elim (next h) [ inl l ↦ inl (inr l) | inr is ↦ inr is ]

pub in_kept : (m : ℕ) (kept rows : List (List ℤ)) (x : List ℤ) → In x (fold (insert_row m) kept rows) → In x kept ⊎ In x rows
in_kept m kept [] x h = inl h
in_kept m kept (row ∷ rows) x h = elim (in_kept m (insert_row m kept row) rows x h) [
  | inl l ↦ elim (in_inserted m kept row x l) [ inl k ↦ inl k | inr is ↦ inr (inl is) ]
  | inr r ↦ inr (inr r)
]

-- a row that is left is one of the rows, reduced
pub of-cleaned : (m : ℕ) (rows : List (List ℤ)) (x : List ℤ) → In x (cleaned m rows) → (y : List ℤ) × In y rows × (reduced y ≡ x)
of-cleaned m rows x i = elim (in_kept m [] (filter (λ r. not (is_trivial m r)) (map reduced rows)) x i) [
  | inl l ↦ absurd l
  | inr j ↦ of-map reduced rows x (of-filter (λ r. not (is_trivial m r)) (map reduced rows) x j).0
]

-- where the rows hold, the cleaned rows hold
pub cleaned_hold : (m : ℕ) (rows : List (List ℤ)) (t : ℕ) (w : List ℕ) → AllHold rows t w → AllHold (cleaned m rows) t w
cleaned_hold m rows t w h =
    to_All (λ r. Holds r t w) (cleaned m rows) (λ x i.
    let y = of-cleaned m rows x i in
    subst (λ r. Holds r t w) y.2 (reduced_holds y.0 t w (from_All (λ r. Holds r t w) rows y.0 h y.1)))

-- where the rows hold, what a step leaves holds
pub eliminated_hold : (m k : ℕ) (rows : List (List ℤ)) (t : ℕ) (w : List ℕ) → k ≤ m → AllHold rows t w → AllHold (eliminated m k rows) t w
eliminated_hold m k rows t w km h = cleaned_hold m (step (m + 1) k rows) t w (step_holds (m + 1) k rows t w (omega arith) h)

-- each row that a step leaves holds on the rows
pub left_on : (m k : ℕ) (rows : List (List ℤ)) (q : List ℤ) → k ≤ m → In q (eliminated m k rows) → HoldsOn (m + 1) rows q
left_on m k rows q km i t w t1 wn h = from_All (λ r. Holds r t w) (eliminated m k rows) q (eliminated_hold m k rows t w km h) i

-- a row without the variable holds on what is left where it holds on the rows
pub kept_on : (m k : ℕ) (rows : List (List ℤ)) (floor q : List ℤ) → 1 ≤ k → k ≤ m → In floor rows → Floors m k floor → entry q k ≡ pos 0 → HoldsOn (m + 1) rows q → HoldsOn (m + 1) (eliminated m k rows) q
kept_on m k rows floor q k1 km fi ff eq on t w t1 wn h =
    let raw = cleaned_all m (step (m + 1) k rows) t w (omega arith) h in
    guided k m rows floor q t w k1 km t1 (omega arith) fi ff eq on (guide_of (m + 1) k rows floor t w (omega arith) wn fi ff.rises raw)

-- and the other way round
pub back_on : (m k : ℕ) (rows : List (List ℤ)) (q : List ℤ) → k ≤ m → HoldsOn (m + 1) (eliminated m k rows) q → HoldsOn (m + 1) rows q
back_on m k rows q km on t w t1 wn h = on t w t1 wn (eliminated_hold m k rows t w km h)
