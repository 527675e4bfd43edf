-- Where the rows of a step come from.
use Rattle.std.proofs.Common.{◌≡◌, ℕ, ℤ, pos, List, [], ◌∷◌, ◌++◌, ◌+◌, ◌<◌, ◌≤◌, Bool, true, false, cond, ◌||◌, Option, Some, None, map, get_or, refl, sym, ap, ◌∙◌, arith, inl, inr, ◌⊎◌}
use Rattle.std.specs.Prelude.{◌≤ℤ◌, ◌<ℤ◌, filter}
use Rattle.exact128.specs.Sums.{entry}
use Rattle.linear_rows.specs.Elimination.{is_positive, is_negative, is_zero, rising, falling, without, crossed, crossings}
use Rattle.linear_rows.specs.Cleaning.{row_gcd}
use Rattle.linear_rows.specs.Equation.{equation_from, other_places, solved_row, solved_rows, combinations_by, step}
use Rattle.linear_rows.specs.Step.{eliminated, all_eliminated}
use Rattle.linear_rows.specs.Members.{In}
use Rattle.linear_rows.proofs.Members.{of-filter, of-append, of-map, of-flat_map}
use Rattle.linear_rows.proofs.Steps.{positive_is, negative_is, zero_is}
use Rattle.linear_rows.proofs.Places.{IsEquation, equation_is, in-at, of-others}
use Rattle.linear_rows.proofs.Whole.{of-cleaned, or_either, opposite_falls}
use Rattle.linear_rows.proofs.Sequence.{crossed_gone, crossed_none, entry-reduced, zero_div}

-- two rows of the list that a step combines
pub record Pair (k : ℕ) (rows : List (List ℤ)) (q : List ℤ) : Type 0 where
  pub up : List ℤ
  pub down : List ℤ
  pub up_in : In up rows
  pub down_in : In down rows
  pub rises : pos 1 ≤ℤ entry up k
  pub falls : entry down k <ℤ pos 0
  pub is : crossed k up down ≡ q

-- a row of a step is a row without the variable, or is combined from two
abbrev pub Origin : ℕ → List (List ℤ) → List ℤ → Type 0
Origin k rows q = (In q rows × (entry q k ≡ pos 0)) ⊎ Pair k rows q

crossing_origin : (k : ℕ) (rows : List (List ℤ)) (q : List ℤ) → In q (crossings k rows) → Pair k rows q
unfolding crossings
crossing_origin k rows q b =
    let x = of-flat_map (λ r. map (λ s. crossed k r s) (falling k rows)) (rising k rows) q b in
    let up = of-filter (λ r. is_positive (entry r k)) rows x.0 x.1 in
    let y = of-map (λ s. crossed k x.0 s) (falling k rows) q x.2 in
    let down = of-filter (λ s. is_negative (entry s k)) rows y.0 y.1 in
    record { up = x.0; down = y.0; up_in = up.0; down_in = down.0; rises = positive_is _ up.1; falls = negative_is _ down.1; is = y.2 }

solved_origin : (n k i j : ℕ) (rows : List (List ℤ)) (q : List ℤ) → k < n → IsEquation n k rows i j → In q (solved_rows k i j rows) → Pair k rows q
unfolding solved_rows
solved_origin n k i j rows q lt is m =
    let y = of-map (solved_row k (get_or rows i []) (get_or rows j [])) (filter (λ q. is_positive (entry q k) || is_negative (entry q k)) (other_places 0 i j rows)) q m in
    let f = of-filter (λ q. is_positive (entry q k) || is_negative (entry q k)) (other_places 0 i j rows) y.0 y.1 in
    let iq = of-others 0 i j rows y.0 f.0 in
    look y.0 iq f.1 (is_negative (entry y.0 k)) refl y.2
  where
    up : pos 1 ≤ℤ entry (get_or rows i []) k
    up = positive_is (entry (get_or rows i []) k) is.rises

    look : (p : List ℤ) → In p rows → (is_positive (entry p k) || is_negative (entry p k)) ≡ true → (b : Bool) → is_negative (entry p k) ≡ b → cond b (crossed k (get_or rows i []) p) (crossed k p (get_or rows j [])) ≡ q → Pair k rows q
    look p ip e true neg eq = record {
      up = get_or rows i [];
      down = p;
      up_in = in-at rows i [] is.i_within;
      down_in = ip;
      rises = up;
      falls = negative_is (entry p k) neg;
      is = eq;
    }
    look p ip e false neg eq = record {
      up = p;
      down = get_or rows j [];
      up_in = ip;
      down_in = in-at rows j [] is.j_within;
      rises = positive_is (entry p k) (elim (or_either (is_positive (entry p k)) (is_negative (entry p k)) e) [ inl a ↦ a | inr b ↦ cc ]);
      falls = opposite_falls n k (get_or rows i []) (get_or rows j []) lt up is.opposite;
      is = eq;
    }

pub step_origin : (n k : ℕ) (rows : List (List ℤ)) (q : List ℤ) → k < n → In q (step n k rows) → Origin k rows q
step_origin n k rows q lt h = look (equation_from n k rows 0 rows) refl h
  where
    old : In q (without k rows) → Origin k rows q
    old a = let f = of-filter (λ r. is_zero (entry r k)) rows q a in inl (f.0, zero_is (entry q k) f.1)

    look : (o : Option (ℕ × ℕ)) → equation_from n k rows 0 rows ≡ o → In q (without k rows ++ combinations_by o k rows) → Origin k rows q
    look None e h = elim (of-append (without k rows) (crossings k rows) q h) [ inl a ↦ old a | inr b ↦ inr (crossing_origin k rows q b) ]
    look (Some (i, j)) e h = elim (of-append (without k rows) (solved_rows k i j rows) q h) [
      | inl a ↦ old a
      | inr b ↦ inr (solved_origin n k i j rows q lt (equation_is n k rows i j e) b)
    ]

-- the variable is gone from what a step leaves
pub gone : (m k : ℕ) (rows : List (List ℤ)) (q : List ℤ) → k ≤ m → In q (eliminated m k rows) → entry q k ≡ pos 0
gone m k rows q km h =
    let y = of-cleaned m (step (m + 1) k rows) q h in
    let z : entry y.0 k ≡ pos 0 = elim (step_origin (m + 1) k rows y.0 (omega arith) y.1) [
      | inl a ↦ a.1
      | inr p ↦ ap (λ q. entry q k) (sym p.is) ∙ crossed_gone k p.up p.down p.rises p.falls
    ] in
    ap (λ q. entry q k) (sym y.2) ∙ entry-reduced (row_gcd y.0) y.0 k ∙ rw z (zero_div (row_gcd y.0))

-- and one that was gone stays gone
abbrev pub Gone : ℕ → List (List ℤ) → Type 0
Gone j rows = (q : List ℤ) → In q rows → entry q j ≡ pos 0

pub gone_stays : (m k j : ℕ) (rows : List (List ℤ)) → k ≤ m → Gone j rows → Gone j (eliminated m k rows)
gone_stays m k j rows km g q h =
    let y = of-cleaned m (step (m + 1) k rows) q h in
    let z : entry y.0 j ≡ pos 0 = elim (step_origin (m + 1) k rows y.0 (omega arith) y.1) [
      | inl a ↦ g y.0 a.0
      | inr p ↦ ap (λ q. entry q j) (sym p.is) ∙ crossed_none k j p.up p.down (g p.up p.up_in) (g p.down p.down_in)
    ] in
    ap (λ q. entry q j) (sym y.2) ∙ entry-reduced (row_gcd y.0) y.0 j ∙ rw z (zero_div (row_gcd y.0))

pub all_gone_stays : (m : ℕ) (ks : List ℕ) (j : ℕ) (rows : List (List ℤ)) → ((k : ℕ) → In k ks → k ≤ m) → Gone j rows → Gone j (all_eliminated m ks rows)
all_gone_stays m [] j rows w g = g
all_gone_stays m (k ∷ ks) j rows w g = all_gone_stays m ks j (eliminated m k rows) (λ x i. w x (inr i)) (gone_stays m k j rows (w k (inl refl)) g)

pub all_gone : (m : ℕ) (ks : List ℕ) (j : ℕ) (rows : List (List ℤ)) → ((k : ℕ) → In k ks → k ≤ m) → In j ks → Gone j (all_eliminated m ks rows)
all_gone m [] j rows w h = absurd h
all_gone m (k ∷ ks) j rows w (inl is) = all_gone_stays m ks j (eliminated m k rows) (λ x i. w x (inr i)) (λ q h. rw (← is) (gone m k rows q (w k (inl refl)) h))
all_gone m (k ∷ ks) j rows w (inr h) = all_gone m ks j (eliminated m k rows) (λ x i. w x (inr i)) h
