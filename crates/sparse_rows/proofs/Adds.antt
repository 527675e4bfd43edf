-- One more row among those that are kept.
use Rattle.std.proofs.Common.{◌≡◌, ℕ, zero, suc, ℤ, pos, negsuc, List, [], ◌∷◌, ◌++◌, ◌+◌, ◌<◌, ◌≤◌, Bool, true, false, cond, map, take, drop, length, get_or, refl, sym, subst, ap, ◌∙◌, arith}
use Rattle.std.specs.Prelude.{int_le, int_div}
use Rattle.std.proofs.Math.Nat.{div-one}
use lib.IntN.{neg_ℤ}
use Rattle.exact128.specs.Sums.{entry}
use Rattle.linear_rows.specs.Cleaning.{row_gcd, reduced, agree, is_trivial, insert_row}
use Rattle.sparse_rows.specs.Adding.{insert_divided, insert_clean, add_row}
use Rattle.linear_rows.proofs.Cleanings.{none}
use Rattle.std.proofs.lemmas.Bool.{lt-ltb, le-ltb}
use Rattle.sparse_rows.proofs.NumberTests.{agree_from}
use Rattle.linear_rows.proofs.Sequence.{entry-reduced}

-- ---- insert_row at the first row that agrees
before_none : (m : ℕ) (kept : List (List ℤ)) (row : List ℤ) (i : ℕ) → i < length kept → ((j : ℕ) → j < i → agree m (get_or kept j []) row ≡ false) → agree m (get_or kept i []) row ≡ true →
    insert_row m kept row ≡ cond (int_le (entry (get_or kept i []) 0) (entry row 0)) kept ((take i kept ++ drop (suc i) kept) ++ row ∷ [])
before_none m [] row i h nay a = absurd (omega arith)
before_none m (r ∷ rs) row zero h nay a = rw a refl
before_none m (r ∷ rs) row (suc i) h nay a =
    let f = nay 0 (omega arith) in
    let later = before_none m rs row i (omega arith) (λ j l. nay (suc j) (omega arith)) a in
    rw f (ap (λ l. r ∷ l) later ∙ turn (int_le (entry (get_or rs i []) 0) (entry row 0)))
  where
    turn : (b : Bool) → r ∷ cond b rs ((take i rs ++ drop (suc i) rs) ++ row ∷ []) ≡ cond b (r ∷ rs) (((r ∷ take i rs) ++ drop (suc i) rs) ++ row ∷ [])
    turn true = refl
    turn false = refl

pub insert_keeps : (m : ℕ) (kept : List (List ℤ)) (row : List ℤ) (i : ℕ) → i < length kept → ((j : ℕ) → j < i → agree m (get_or kept j []) row ≡ false) → agree m (get_or kept i []) row ≡ true →
    int_le (entry (get_or kept i []) 0) (entry row 0) ≡ true → kept ≡ insert_row m kept row
insert_keeps m kept row i h nay a le = sym (before_none m kept row i h nay a ∙ rw le refl)

pub insert_replaces : (m : ℕ) (kept : List (List ℤ)) (row : List ℤ) (i : ℕ) → i < length kept → ((j : ℕ) → j < i → agree m (get_or kept j []) row ≡ false) → agree m (get_or kept i []) row ≡ true →
    int_le (entry (get_or kept i []) 0) (entry row 0) ≡ false → (take i kept ++ drop (suc i) kept) ++ row ∷ [] ≡ insert_row m kept row
insert_replaces m kept row i h nay a le = sym (before_none m kept row i h nay a ∙ rw le refl)

pub insert_appends : (m : ℕ) (kept : List (List ℤ)) (row : List ℤ) → ((j : ℕ) → j < length kept → agree m (get_or kept j []) row ≡ false) → kept ++ row ∷ [] ≡ insert_row m kept row
insert_appends m [] row nay = refl
insert_appends m (r ∷ rs) row nay =
    let f = nay 0 (omega arith) in
    rw f (ap (λ l. r ∷ l) (insert_appends m rs row (λ j l. nay (suc j) (omega arith))))

-- ---- dividing
div_one : (x : ℤ) → int_div x (pos 1) ≡ x
div_one (pos n) = ap pos (div-one n)
div_one (negsuc n) = ap (λ k. neg_ℤ (pos k)) (div-one (suc n))

map_same : (f : ℤ → ℤ) (xs : List ℤ) → ((x : ℤ) → f x ≡ x) → map f xs ≡ xs
map_same f [] h = refl
map_same f (x ∷ xs) h = cons_same (f x) x (map f xs) xs (h x) (map_same f xs h)
  where
    cons_same : (x y : ℤ) (xs ys : List ℤ) → x ≡ y → xs ≡ ys → x ∷ xs ≡ y ∷ ys
    cons_same x y xs ys e f = cc

pub reduced_by : (row : List ℤ) (g : ℕ) → g ≡ row_gcd row → map (λ x. int_div x (pos g)) row ≡ reduced row
reduced_by row g e = ap (λ g. map (λ x. int_div x (pos g)) row) e

pub reduced_one : (row : List ℤ) → 1 ≡ row_gcd row → row ≡ reduced row
reduced_one row e = sym (map_same (λ x. int_div x (pos 1)) row div_one) ∙ reduced_by row 1 e

-- a row of zeros is trivial
pub zeros_trivial : (m : ℕ) (row : List ℤ) → 0 ≡ row_gcd row → is_trivial m (reduced row) ≡ true
zeros_trivial m row e = subst (λ r. is_trivial m r ≡ true) (reduced_by row 0 e)
    (let at : (j : ℕ) → entry (map (λ x. int_div x (pos 0)) row) j ≡ pos 0 = λ j. entry-reduced 0 row j ∙ none (entry row j) in
    rw (agree_from m (map (λ x. int_div x (pos 0)) row) [] (λ j l. rw (at (j + 1)) refl), at 0) refl)

pub add_full : (m : ℕ) (kept : List (List ℤ)) (row : List ℤ) → 4096 < length kept → kept ≡ add_row m kept row
unfolding add_row
add_full m kept row h = rw (lt-ltb 4096 (length kept) h) refl

pub add_zeros : (m : ℕ) (kept : List (List ℤ)) (row : List ℤ) → length kept ≤ 4096 → 0 ≡ row_gcd row → kept ≡ add_row m kept row
unfolding add_row insert_clean
add_zeros m kept row h e = rw (le-ltb 4096 (length kept) h, zeros_trivial m row e) refl

pub add_clean : (m : ℕ) (kept : List (List ℤ)) (row divided : List ℤ) → length kept ≤ 4096 → divided ≡ reduced row → insert_divided m kept divided ≡ add_row m kept row
unfolding add_row insert_clean
add_clean m kept row divided h e = rw (le-ltb 4096 (length kept) h) (ap (λ r. insert_divided m kept r) e)
