-- Rows that are added one after the other are cleaned, unless there are too many.
use Rattle.std.proofs.Common.{◌≡◌, ℕ, suc, ℤ, List, [], ◌∷◌, ◌++◌, ◌+◌, ◌<◌, ◌≤◌, Bool, true, false, cond, not, Some, None, map, length, refl, sym, subst, ap, ◌∙◌, arith, length-append, inl, inr, ◌⊎◌}
use Rattle.std.specs.Prelude.{fold, filter, int_le, nat_lt, Result, Ok, Err, OnOk}
use Rattle.std.proofs.lemmas.Bool.{lt-ltb, le-ltb}
use Rattle.exact128.specs.Sums.{entry}
use Rattle.linear_rows.specs.Elimination.{without}
use Rattle.linear_rows.specs.Cleaning.{reduced, agree, is_trivial, insert_row}
use Rattle.linear_rows.specs.Equation.{equation_from, combinations_by, step}
use Rattle.linear_rows.specs.Blown.{step_fits, step_fault, fault_of, solved_rows_fit, crossings_fit}
use Rattle.linear_rows.specs.Step.{eliminated}
use Rattle.sparse_rows.specs.Adding.{insert_clean, add_row, add_rows}
use Rattle.fourier.specs.Saying.{FitsUnless, IsMany}

clean_fold : (m : ℕ) (kept rows : List (List ℤ)) → fold (insert_clean m) kept rows ≡ fold (insert_row m) kept (filter (λ r. not (is_trivial m r)) (map reduced rows))
unfolding insert_clean
clean_fold m kept [] = refl
clean_fold m kept (r ∷ rs) = look (is_trivial m (reduced r)) (λ kept. clean_fold m kept rs)
  where
    look : (b : Bool) → ((kept : List (List ℤ)) → fold (insert_clean m) kept rs ≡ fold (insert_row m) kept (filter (λ r. not (is_trivial m r)) (map reduced rs))) →
        fold (insert_clean m) (cond b kept (insert_row m kept (reduced r))) rs ≡ fold (insert_row m) kept (cond (not b) (reduced r ∷ filter (λ r. not (is_trivial m r)) (map reduced rs)) (filter (λ r. not (is_trivial m r)) (map reduced rs)))
    look true next = next kept
    look false next = next (insert_row m kept (reduced r))

-- nothing gets lost
insert_longer : (m : ℕ) (kept : List (List ℤ)) (row : List ℤ) → length kept ≤ length (insert_row m kept row)
insert_longer m [] row = omega arith
insert_longer m (r ∷ rs) row = look (agree m r row) (int_le (entry r 0) (entry row 0)) (insert_longer m rs row)
  where
    look : (a b : Bool) → length rs ≤ length (insert_row m rs row) → suc (length rs) ≤ length (cond a (cond b (r ∷ rs) (rs ++ row ∷ [])) (r ∷ insert_row m rs row))
    look true true h = omega arith
    look true false h = omega (arith, length-append rs (row ∷ []))
    look false b h = omega arith

clean_longer : (m : ℕ) (kept : List (List ℤ)) (row : List ℤ) → length kept ≤ length (insert_clean m kept row)
unfolding insert_clean
clean_longer m kept row = look (is_trivial m (reduced row))
  where
    look : (b : Bool) → length kept ≤ length (cond b kept (insert_row m kept (reduced row)))
    look true = omega arith
    look false = insert_longer m kept (reduced row)

fold_longer : (m : ℕ) (kept rows : List (List ℤ)) → length kept ≤ length (fold (insert_clean m) kept rows)
fold_longer m kept [] = omega arith
fold_longer m kept (r ∷ rs) =
    let a = clean_longer m kept r in
    let b = fold_longer m (insert_clean m kept r) rs in
    omega arith

-- the rows are those that cleaning leaves, or both are too many
pub record Capped (kept all : List (List ℤ)) : Type 0 where
  pub few : length kept ≤ 4096 → kept ≡ all
  pub many : 4096 < length kept → 4096 < length all

pub added_full : (m : ℕ) (kept rows : List (List ℤ)) → 4096 < length kept → add_rows m kept rows ≡ kept
unfolding add_row
added_full m kept [] h = refl
added_full m kept (r ∷ rs) h = rw (lt-ltb 4096 (length kept) h) (added_full m kept rs h)

few_or : (n : ℕ) → (n ≤ 4096) ⊎ (4096 < n)
few_or n = search arith

capped : (m : ℕ) (kept rows : List (List ℤ)) → Capped (add_rows m kept rows) (fold (insert_clean m) kept rows)
unfolding add_row
capped m kept [] = record { few = λ h. refl; many = λ h. h }
capped m kept (r ∷ rs) = elim (few_or (length kept)) [
  | inl few ↦ rw (le-ltb 4096 (length kept) few) (capped m (insert_clean m kept r) rs)
  | inr many ↦
      let full = added_full m kept rs many in
      let long = fold_longer m kept (r ∷ rs) in
      rw (lt-ltb 4096 (length kept) many) (record {
        few = λ h. absurd (omega (arith, ap length full));
        many = λ h. omega arith;
      })
]

fold-append : (m : ℕ) (start xs ys : List (List ℤ)) → add_rows m (add_rows m start xs) ys ≡ add_rows m start (xs ++ ys)
fold-append m start [] ys = refl
fold-append m start (x ∷ xs) ys = fold-append m (add_row m start x) xs ys

-- what a whole step adds
pub stepped : (m k : ℕ) (rows first kept : List (List ℤ)) → first ≡ add_rows m [] (without k rows) → kept ≡ add_rows m first (combinations_by (equation_from (m + 1) k rows 0 rows) k rows) → Capped kept (eliminated m k rows)
stepped m k rows first kept e f =
    let all : kept ≡ add_rows m [] (step (m + 1) k rows) = f ∙ ap (λ l. add_rows m l (combinations_by (equation_from (m + 1) k rows 0 rows) k rows)) e ∙ fold-append m [] (without k rows) (combinations_by (equation_from (m + 1) k rows 0 rows) k rows) in
    let c = capped m [] (step (m + 1) k rows) in
    let is = clean_fold m [] (step (m + 1) k rows) in
    subst (λ l. Capped l (eliminated m k rows)) (sym all) (subst (Capped (add_rows m [] (step (m + 1) k rows))) is c)

pub step_wide : (m k : ℕ) (rows : List (List ℤ)) → step_fits m k rows ≡ false → step_fault m k rows ≡ Some true
unfolding step_fault
step_wide m k rows e = rw e refl

pub step_many : (m k : ℕ) (rows kept : List (List ℤ)) → step_fits m k rows ≡ true → Capped kept (eliminated m k rows) → 4096 < length kept → step_fault m k rows ≡ Some false
unfolding step_fault
step_many m k rows kept e c h = rw (e, lt-ltb 4096 (length (eliminated m k rows)) (c.many h)) refl

pub step_few : (m k : ℕ) (rows kept : List (List ℤ)) → step_fits m k rows ≡ true → Capped kept (eliminated m k rows) → length kept ≤ 4096 → (kept ≡ eliminated m k rows) × (step_fault m k rows ≡ None)
unfolding step_fault
step_few m k rows kept e c h =
    let is = c.few h in
    let le : length (eliminated m k rows) ≤ 4096 = omega (arith, ap length is) in
    (is, rw (e, le-ltb 4096 (length (eliminated m k rows)) le) refl)

-- the same, also for brief steps
crowded : (fits many : Bool) → many ≡ false → (wide : Bool) × (fault_of fits many ≡ Some wide)
crowded true true e = cc
crowded true false e = (false, refl)
crowded false many e = (true, refl)

pub said_many : (brief : Bool) (m k : ℕ) (rows kept : List (List ℤ)) → FitsUnless brief kept (step_fits m k rows) → Capped kept (eliminated m k rows) → 4096 < length kept → IsMany brief (step_fault m k rows)
unfolding step_fault
said_many false m k rows kept e c h = step_many m k rows kept e c h
said_many true m k rows kept e c h = crowded (step_fits m k rows) (not (nat_lt 4096 (length (eliminated m k rows)))) (ap not (lt-ltb 4096 (length (eliminated m k rows)) (c.many h)))

pub said_few : (brief : Bool) (m k : ℕ) (rows kept : List (List ℤ)) → FitsUnless brief kept (step_fits m k rows) → Capped kept (eliminated m k rows) → length kept ≤ 4096 → (kept ≡ eliminated m k rows) × (step_fault m k rows ≡ None)
said_few false m k rows kept e c h = step_few m k rows kept e c h
said_few true m k rows kept e c h = step_few m k rows kept (e h) c h

pub fits_unless : (brief : Bool) (kept : List (List ℤ)) (b : Bool) → b ≡ true → FitsUnless brief kept b
fits_unless false kept b e = e
fits_unless true kept b e = λ _. e

pub unless_crowded : (brief : Bool) (kept : List (List ℤ)) (b : Bool) → brief ≡ true → 4096 < length kept → FitsUnless brief kept b
unless_crowded false kept b e h = cc
unless_crowded true kept b e h = λ few. absurd (omega arith)

pub ok_unless : {T E : Type 0} (brief : Bool) (kept : List (List ℤ)) (b : Bool) (r : Result T E) → OnOk r (b ≡ true) → OnOk r (FitsUnless brief kept b)
ok_unless brief kept b (Ok x) h = fits_unless brief kept b h
ok_unless brief kept b (Err e) h = h

-- the test of the numbers, by the equation that there is
pub fits_solved : (m k i j : ℕ) (rows : List (List ℤ)) → equation_from (m + 1) k rows 0 rows ≡ Some (i, j) → solved_rows_fit k i j rows ≡ step_fits m k rows
unfolding step_fits
fits_solved m k i j rows e = rw e refl

pub fits_crossed : (m k : ℕ) (rows : List (List ℤ)) → equation_from (m + 1) k rows 0 rows ≡ None → crossings_fit k rows ≡ step_fits m k rows
unfolding step_fits
fits_crossed m k rows e = rw e refl
