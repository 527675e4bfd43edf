-- Rows crossed with an equation.
use Rattle.std.proofs.Common.{◌≡◌, ℕ, zero, suc, ℤ, List, [], ◌∷◌, ◌++◌, ◌+◌, ◌<◌, Bool, true, false, cond, not, ◌||◌, nat_eq, map, take, length, get_or, refl, sym, subst, ap, ◌∙◌, arith}
use Rattle.std.specs.Prelude.{fold, filter, ◌&&◌}
use Rattle.std.proofs.lemmas.Bool.{or_right}
use Rattle.exact128.specs.Sums.{entry}
use Rattle.linear_rows.specs.Elimination.{crossed, is_positive, is_negative}
use Rattle.linear_rows.specs.Equation.{other_places, solved_row, solved_rows}
use Rattle.linear_rows.specs.Blown.{all_of, crossed_fits, solved_fits, solved_rows_fit}
use Rattle.sparse_rows.specs.Adding.{add_row, add_rows}
use Rattle.fourier.specs.SolvedRows.{moves, add_solved, add_solved_fits}
use Rattle.fourier.proofs.Loops.{Done, done_more}

falling_moves : (k : ℕ) (q : List ℤ) → is_negative (entry q k) ≡ true → moves k q ≡ true
falling_moves k q n = or_right (is_positive (entry q k)) (is_negative (entry q k)) n

rising_moves : (k : ℕ) (q : List ℤ) → is_positive (entry q k) ≡ true → moves k q ≡ true
rising_moves k q n = rw n refl

rests : (k : ℕ) (q : List ℤ) → is_positive (entry q k) ≡ false → is_negative (entry q k) ≡ false → moves k q ≡ false
rests k q p n = rw p n

-- where the row falls
pub solved_falls : (m k : ℕ) (r s : List ℤ) (kept : List (List ℤ)) (q : List ℤ) → is_negative (entry q k) ≡ true → add_row m kept (crossed k r q) ≡ add_solved m k r s kept q
unfolding add_solved
solved_falls m k r s kept q n = let o = falling_moves k q n in rw (o, n) refl

pub solved_falls_fits : (k : ℕ) (r s q : List ℤ) → is_negative (entry q k) ≡ true → crossed_fits k r q ≡ add_solved_fits k r s q
unfolding add_solved_fits
solved_falls_fits k r s q n = let o = falling_moves k q n in rw (o, n) refl

-- where it rises
pub solved_rises : (m k : ℕ) (r s : List ℤ) (kept : List (List ℤ)) (q : List ℤ) → is_negative (entry q k) ≡ false → is_positive (entry q k) ≡ true → add_row m kept (crossed k q s) ≡ add_solved m k r s kept q
unfolding add_solved
solved_rises m k r s kept q n p = rw (p, n) refl

pub solved_rises_fits : (k : ℕ) (r s q : List ℤ) → is_negative (entry q k) ≡ false → is_positive (entry q k) ≡ true → crossed_fits k q s ≡ add_solved_fits k r s q
unfolding add_solved_fits
solved_rises_fits k r s q n p = rw (p, n) refl

-- where it does neither
pub solved_rests : (m k : ℕ) (r s : List ℤ) (kept : List (List ℤ)) (q : List ℤ) → is_negative (entry q k) ≡ false → is_positive (entry q k) ≡ false → kept ≡ add_solved m k r s kept q
unfolding add_solved
solved_rests m k r s kept q n p = let o = rests k q p n in rw o refl

pub solved_rests_fits : (k : ℕ) (r s q : List ℤ) → is_negative (entry q k) ≡ false → is_positive (entry q k) ≡ false → add_solved_fits k r s q ≡ true
unfolding add_solved_fits
solved_rests_fits k r s q n p = let o = rests k q p n in rw o refl

-- ---- rows at other places
pub others_yes : (place i j p : ℕ) (rows : List (List ℤ)) → p < length rows → not (nat_eq (place + p) i || nat_eq (place + p) j) ≡ true → other_places place i j (take p rows) ++ get_or rows p [] ∷ [] ≡ other_places place i j (take (p + 1) rows)
others_yes place i j p [] h e = absurd (omega arith)
others_yes place i j zero (r ∷ rs) h e =
    let z : place + 0 ≡ place = omega arith in
    let f : (nat_eq place i || nat_eq place j) ≡ false = not_true (nat_eq place i || nat_eq place j) (rw z at e) in
    rw f refl
  where
    not_true : (b : Bool) → not b ≡ true → b ≡ false
    not_true true e = cc
    not_true false e = refl
others_yes place i j (suc p) (r ∷ rs) h e =
    let one : suc p + 1 ≡ suc (p + 1) = omega arith in
    let z : place + suc p ≡ suc place + p = omega arith in
    front (other_places (suc place) i j (take p rs)) (other_places (suc place) i j (take (p + 1) rs)) (nat_eq place i || nat_eq place j) (others_yes (suc place) i j p rs (omega arith) (rw z at e))
    ∙ ap (λ k. other_places place i j (take k (r ∷ rs))) (sym one)
  where
    front : (ys zs : List (List ℤ)) (b : Bool) → ys ++ get_or rs p [] ∷ [] ≡ zs → cond b ys (r ∷ ys) ++ get_or rs p [] ∷ [] ≡ cond b zs (r ∷ zs)
    front ys zs true e = e
    front ys zs false e = ap (λ l. r ∷ l) e

pub others_no : (place i j p : ℕ) (rows : List (List ℤ)) → p < length rows → not (nat_eq (place + p) i || nat_eq (place + p) j) ≡ false → other_places place i j (take p rows) ≡ other_places place i j (take (p + 1) rows)
others_no place i j p [] h e = absurd (omega arith)
others_no place i j zero (r ∷ rs) h e =
    let z : place + 0 ≡ place = omega arith in
    let f : (nat_eq place i || nat_eq place j) ≡ true = not_false (nat_eq place i || nat_eq place j) (rw z at e) in
    rw f refl
  where
    not_false : (b : Bool) → not b ≡ false → b ≡ true
    not_false true e = refl
    not_false false e = cc
others_no place i j (suc p) (r ∷ rs) h e =
    let one : suc p + 1 ≡ suc (p + 1) = omega arith in
    let z : place + suc p ≡ suc place + p = omega arith in
    ap (λ l. cond (nat_eq place i || nat_eq place j) l (r ∷ l)) (others_no (suc place) i j p rs (omega arith) (rw z at e)) ∙ ap (λ k. other_places place i j (take k (r ∷ rs))) (sym one)

pub others_in : (place i j p : ℕ) (rows : List (List ℤ)) (q : List ℤ → Bool) → p < length rows → not (nat_eq (place + p) i || nat_eq (place + p) j) ≡ true → q (get_or rows p []) ≡ false → all_of q (other_places place i j rows) ≡ false
others_in place i j p [] q h e f = absurd (omega arith)
others_in place i j zero (r ∷ rs) q h e f =
    let z : place + 0 ≡ place = omega arith in
    let b : (nat_eq place i || nat_eq place j) ≡ false = not_true (nat_eq place i || nat_eq place j) (rw z at e) in
    rw b (rw f refl)
  where
    not_true : (b : Bool) → not b ≡ true → b ≡ false
    not_true true e = cc
    not_true false e = refl
others_in place i j (suc p) (r ∷ rs) q h e f =
    let z : place + suc p ≡ suc place + p = omega arith in
    front (nat_eq place i || nat_eq place j) (others_in (suc place) i j p rs q (omega arith) (rw z at e) f)
  where
    right_false : (b : Bool) → (b && false) ≡ false
    right_false true = refl
    right_false false = refl

    front : (b : Bool) → all_of q (other_places (suc place) i j rs) ≡ false → all_of q (cond b (other_places (suc place) i j rs) (r ∷ other_places (suc place) i j rs)) ≡ false
    front true e = e
    front false e = rw e (right_false (q r))

-- ---- the whole
solved_fold : (m k : ℕ) (r s : List ℤ) (start : List (List ℤ)) (xs : List (List ℤ)) → fold (add_solved m k r s) start xs ≡ add_rows m start (map (solved_row k r s) (filter (λ q. is_positive (entry q k) || is_negative (entry q k)) xs))
unfolding add_solved
solved_fold m k r s start [] = refl
solved_fold m k r s start (x ∷ xs) = look (moves k x) (λ start. solved_fold m k r s start xs)
  where
    look : (b : Bool) → ((start : List (List ℤ)) → fold (add_solved m k r s) start xs ≡ add_rows m start (map (solved_row k r s) (filter (λ q. is_positive (entry q k) || is_negative (entry q k)) xs))) →
        fold (add_solved m k r s) (cond b (add_row m start (solved_row k r s x)) start) xs ≡ add_rows m start (map (solved_row k r s) (cond b (x ∷ filter (λ q. is_positive (entry q k) || is_negative (entry q k)) xs) (filter (λ q. is_positive (entry q k) || is_negative (entry q k)) xs)))
    look true next = next (add_row m start (solved_row k r s x))
    look false next = next start

solved_all : (k : ℕ) (r s : List ℤ) (xs : List (List ℤ)) → all_of (add_solved_fits k r s) xs ≡ all_of (solved_fits k r s) (filter (λ q. is_positive (entry q k) || is_negative (entry q k)) xs)
unfolding add_solved_fits
solved_all k r s [] = refl
solved_all k r s (x ∷ xs) = look (moves k x) (solved_all k r s xs)
  where
    look : (b : Bool) → all_of (add_solved_fits k r s) xs ≡ all_of (solved_fits k r s) (filter (λ q. is_positive (entry q k) || is_negative (entry q k)) xs) →
        (cond b (solved_fits k r s x) true && all_of (add_solved_fits k r s) xs) ≡ all_of (solved_fits k r s) (cond b (x ∷ filter (λ q. is_positive (entry q k) || is_negative (entry q k)) xs) (filter (λ q. is_positive (entry q k) || is_negative (entry q k)) xs))
    look true next = ap (λ b. solved_fits k r s x && b) next
    look false next = next

pub solved_kept : (m k i j : ℕ) (start rows kept : List (List ℤ)) → kept ≡ fold (add_solved m k (get_or rows i []) (get_or rows j [])) start (other_places 0 i j rows) → kept ≡ add_rows m start (solved_rows k i j rows)
unfolding solved_rows
solved_kept m k i j start rows kept e = e ∙ solved_fold m k (get_or rows i []) (get_or rows j []) start (other_places 0 i j rows)

pub solved_fit : (k i j : ℕ) (rows : List (List ℤ)) (b : Bool) → all_of (add_solved_fits k (get_or rows i []) (get_or rows j [])) (other_places 0 i j rows) ≡ b → solved_rows_fit k i j rows ≡ b
unfolding solved_rows_fit
solved_fit k i j rows b e = sym (solved_all k (get_or rows i []) (get_or rows j []) (other_places 0 i j rows)) ∙ e

-- ---- one place further
pub place_yes : (m k i j p : ℕ) (r s q : List ℤ) (start kept next rows : List (List ℤ)) → p < length rows → not (nat_eq p i || nat_eq p j) ≡ true → q ≡ get_or rows p [] →
    Done (add_solved m k r s) (add_solved_fits k r s) start (other_places 0 i j (take p rows)) kept → next ≡ add_solved m k r s kept q → add_solved_fits k r s q ≡ true →
    Done (add_solved m k r s) (add_solved_fits k r s) start (other_places 0 i j (take (p + 1) rows)) next
place_yes m k i j p r s q start kept next rows h e is d n f =
    let z : 0 + p ≡ p = omega arith in
    let e2 : not (nat_eq (0 + p) i || nat_eq (0 + p) j) ≡ true = rw z e in
    subst (λ l. Done (add_solved m k r s) (add_solved_fits k r s) start l next) (others_yes 0 i j p rows h e2)
    (done_more (add_solved m k r s) (add_solved_fits k r s) start kept next (other_places 0 i j (take p rows)) (get_or rows p []) d (n ∙ ap (add_solved m k r s kept) is) (subst (λ q. add_solved_fits k r s q ≡ true) is f))

pub place_no : (m k i j p : ℕ) (r s : List ℤ) (start kept rows : List (List ℤ)) → p < length rows → not (nat_eq p i || nat_eq p j) ≡ false →
    Done (add_solved m k r s) (add_solved_fits k r s) start (other_places 0 i j (take p rows)) kept → Done (add_solved m k r s) (add_solved_fits k r s) start (other_places 0 i j (take (p + 1) rows)) kept
place_no m k i j p r s start kept rows h e d =
    let z : 0 + p ≡ p = omega arith in
    let e2 : not (nat_eq (0 + p) i || nat_eq (0 + p) j) ≡ false = rw z e in
    subst (λ l. Done (add_solved m k r s) (add_solved_fits k r s) start l kept) (others_no 0 i j p rows h e2) d

pub place_wide : (k i j p : ℕ) (r s q : List ℤ) (rows : List (List ℤ)) → p < length rows → not (nat_eq p i || nat_eq p j) ≡ true → q ≡ get_or rows p [] → add_solved_fits k r s q ≡ false → all_of (add_solved_fits k r s) (other_places 0 i j rows) ≡ false
place_wide k i j p r s q rows h e is f =
    let z : 0 + p ≡ p = omega arith in
    let e2 : not (nat_eq (0 + p) i || nat_eq (0 + p) j) ≡ true = rw z e in
    others_in 0 i j p rows (add_solved_fits k r s) h e2 (subst (λ q. add_solved_fits k r s q ≡ false) is f)
