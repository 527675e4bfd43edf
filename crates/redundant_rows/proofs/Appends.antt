-- Lists with numbers and rows appended.
use Rattle.std.proofs.Common.{◌≡◌, ℕ, zero, suc, ◌+◌, ◌-◌, ◌^◌, ◌<◌, ◌≤◌, ℤ, pos, negsuc, neg_ℤ, Bool, true, false, ◌&&◌, List, [], ◌∷◌, ◌++◌, map, drop, length, get_or, refl, ap, sym, ◌∙◌, arith, append_assoc, subst}
use Rattle.std.specs.Prelude.{All, ◌≤ℤ◌}
use Rattle.std.proofs.lemmas.Int.{ints}
use Rattle.exact128.specs.Fits.{fits}
use Rattle.linear_rows.specs.Blown.{all_of}
use Rattle.linear_rows.specs.Solving.{zeros, units}
use Rattle.linear_rows.specs.Systems.{opposite, naturals, difference, differences, equalities}
use Rattle.linear_rows.specs.Plain.{plain_row, plain_rows}
use Rattle.linear_rows.specs.declared.row.Row.{Row}
use Rattle.redundant_rows.specs.Negating.{IsNegatable}
use Rattle.simplex.proofs.RowLists.{length-zeros, map_push}
use Rattle.fourier.proofs.StartRows.{units_parts}

pub zeros-push : (k : ℕ) → zeros (k + 1) ≡ zeros k ++ pos 0 ∷ []
zeros-push k = let e : k + 1 ≡ suc k = omega arith in ap zeros e ∙ more k
  where
    more : (k : ℕ) → zeros (suc k) ≡ zeros k ++ pos 0 ∷ []
    more zero = refl
    more (suc k) = ap (λ l. pos 0 ∷ l) (more k)

-- one number is taken from the front of what is left
pub drop_one : {X : Type 0} (xs : List X) (k : ℕ) (d : X) → k < length xs → drop k xs ≡ get_or xs k d ∷ drop (k + 1) xs
drop_one [] k d l = absurd (omega arith)
drop_one (x ∷ xs) zero d l = refl
drop_one (x ∷ xs) (suc k) d l = let e : suc k + 1 ≡ suc (k + 1) = omega arith in drop_one xs k d (omega arith) ∙ ap (λ n. get_or xs k d ∷ drop n (x ∷ xs)) (sym e)

pub drop_all : {X : Type 0} (xs : List X) (k : ℕ) → length xs ≤ k → drop k xs ≡ []
drop_all [] zero l = refl
drop_all [] (suc k) l = refl
drop_all (x ∷ xs) zero l = absurd (omega arith)
drop_all (x ∷ xs) (suc k) l = drop_all xs k (omega arith)

-- an element moves from what is left to what there is
pub one_moved : {X : Type 0} (now next left rest all : List X) (x : X) → next ≡ now ++ x ∷ [] → left ≡ x ∷ rest → now ++ left ≡ all → next ++ rest ≡ all
one_moved now next left rest all x en el e = ap (λ l. l ++ rest) en ∙ append_assoc now (x ∷ []) rest ∙ ap (λ l. now ++ l) (sym el) ∙ e

pub append_none : {X : Type 0} (xs : List X) → xs ++ [] ≡ xs
append_none [] = refl
append_none (x ∷ xs) = ap (λ s. x ∷ s) (append_none xs)

-- nothing is left
pub all_moved : {X : Type 0} (now left all : List X) → left ≡ [] → now ++ left ≡ all → now ≡ all
all_moved now left all el e = sym (append_none now) ∙ ap (λ l. now ++ l) (sym el) ∙ e

opposite-zeros : (n : ℕ) → opposite (zeros n) ≡ zeros n
opposite-zeros zero = refl
opposite-zeros (suc n) = ap (λ l. pos 0 ∷ l) (opposite-zeros n)

pub opposite-append : (xs ys : List ℤ) → opposite (xs ++ ys) ≡ opposite xs ++ opposite ys
opposite-append [] ys = refl
opposite-append (x ∷ xs) ys = ap (λ l. neg_ℤ x ∷ l) (opposite-append xs ys)

neg-neg : (z : ℤ) → neg_ℤ (neg_ℤ z) ≡ z
neg-neg (pos zero) = refl
neg-neg (pos (suc n)) = refl
neg-neg (negsuc n) = refl

opposite-opposite : (xs : List ℤ) → opposite (opposite xs) ≡ xs
opposite-opposite [] = refl
opposite-opposite (x ∷ xs) = λ i. neg-neg x i ∷ opposite-opposite xs i

pub opposite_units : (long place : ℕ) → place < long → opposite (units long place) ≡ zeros place ++ negsuc 0 ∷ zeros (long - place - 1)
opposite_units long place h =
    ap opposite (units_parts long place h) ∙ opposite-append (zeros place) (pos 1 ∷ zeros (long - place - 1))
    ∙ (λ i. opposite-zeros place i ++ negsuc 0 ∷ opposite-zeros (long - place - 1) i)

pub opposite_difference : (a i : ℕ) (b : ℤ) (cs : List ℤ) → i < a → opposite (difference a i (b ∷ cs)) ≡ b ∷ ((zeros i ++ negsuc 0 ∷ zeros (a - i - 1)) ++ cs)
opposite_difference a i b cs h =
    (λ j. neg-neg b j ∷ opposite-append (units a i) (opposite cs) j)
    ∙ (λ j. b ∷ (opposite_units a i h j ++ opposite-opposite cs j))

-- ---- rows that are left
pub naturals_left : (count i from long : ℕ) → i < count → naturals (count - i) (from + i) long ≡ (pos 0 ∷ units long (from + i)) ∷ naturals (count - (i + 1)) (from + (i + 1)) long
naturals_left count i from long h =
    let e : count - i ≡ suc (count - (i + 1)) = omega arith in
    let f : suc (from + i) ≡ from + (i + 1) = omega arith in
    ap (λ c. naturals c (from + i) long) e ∙ ap (λ p. (pos 0 ∷ units long (from + i)) ∷ naturals (count - (i + 1)) p long) f

pub equalities_left : (a i : ℕ) (rows : List Row) (r : Row) → i < length rows → r ≡ get_or rows i r → equalities a i (plain_rows (drop i rows)) ≡ difference a i (plain_row r) ∷ opposite (difference a i (plain_row r)) ∷ equalities a (i + 1) (plain_rows (drop (i + 1) rows))
equalities_left a i rows r l e =
    let f : suc i ≡ i + 1 = omega arith in
    ap (λ rs. equalities a i (plain_rows rs)) (drop_one rows i r l)
    ∙ ap (λ (q : Row). difference a i (plain_row q) ∷ opposite (difference a i (plain_row q)) ∷ equalities a (suc i) (plain_rows (drop (i + 1) rows))) (sym e)
    ∙ ap (λ p. difference a i (plain_row r) ∷ opposite (difference a i (plain_row r)) ∷ equalities a p (plain_rows (drop (i + 1) rows))) f

pub mapped_left : (f : List ℤ → List ℤ) (i : ℕ) (rows : List Row) (r : Row) → i < length rows → r ≡ get_or rows i r → map f (plain_rows (drop i rows)) ≡ f (plain_row r) ∷ map f (plain_rows (drop (i + 1) rows))
mapped_left f i rows r l e = ap (λ rs. map f (plain_rows rs)) (drop_one rows i r l) ∙ ap (λ (q : Row). f (plain_row q) ∷ map f (plain_rows (drop (i + 1) rows))) (sym e)

-- ---- lengths
pub long_alone : (p r : ℕ) (x : ℤ) → length (zeros p ++ x ∷ zeros r) ≡ p + suc r
long_alone zero r x = let e = length-zeros r in omega arith
long_alone (suc p) r x = let e = long_alone p r x in omega arith

pub long_append : {X : Type 0} (xs ys : List X) → length (xs ++ ys) ≡ length xs + length ys
long_append [] ys = omega arith
long_append (x ∷ xs) ys = let e = long_append xs ys in omega arith

pub differences_left : (n i : ℕ) → i < n → differences n (n - i) i ≡ (pos 0 ∷ (units n i ++ opposite (units n i) ++ pos 0 ∷ [])) ∷ differences n (n - (i + 1)) (i + 1)
differences_left n i h =
    let e : n - i ≡ suc (n - (i + 1)) = omega arith in
    let f : suc i ≡ i + 1 = omega arith in
    ap (λ c. differences n c i) e ∙ ap (λ p. (pos 0 ∷ (units n i ++ opposite (units n i) ++ pos 0 ∷ [])) ∷ differences n (n - (i + 1)) p) f

-- a row moves from what is left to what there is
pub row_moved : (now next : List Row) (r : Row) (x : List ℤ) (left rest all : List (List ℤ)) → next ≡ now ++ r ∷ [] → plain_row r ≡ x → left ≡ x ∷ rest → plain_rows now ++ left ≡ all → plain_rows next ++ rest ≡ all
row_moved now next r x left rest all en ex el e =
    one_moved (plain_rows now) (plain_rows next) left rest all x (ap plain_rows en ∙ map_push plain_row now r ∙ ap (λ y. plain_rows now ++ y ∷ []) ex) el e

-- ---- opposites
pub natural_negatable : (xs : List ℤ) → All (λ x. pos 0 ≤ℤ x) xs → All IsNegatable xs
natural_negatable xs h k d l e = let n = h k d l in below (subst (λ (z : ℤ). pos 0 ≤ℤ z) e n)
  where
    below : pos 0 ≤ℤ negsuc (2 ^ 127 - 1) → ⊥
    below h = absurd (omega (arith, ints))

pub fitting_negatable : (xs : List ℤ) → all_of fits xs ≡ true → All IsNegatable xs
fitting_negatable [] e k d l = absurd (omega arith)
fitting_negatable (x ∷ xs) e zero d l = λ is. least (ap (λ (z : ℤ). fits z && all_of fits xs) (sym is) ∙ e)
  where
    least : (fits (negsuc (2 ^ 127 - 1)) && all_of fits xs) ≡ true → ⊥
    least e = cc
fitting_negatable (x ∷ xs) e (suc k) d l = fitting_negatable xs (more (fits x) e) k d (omega arith)
  where
    more : (b : Bool) → (b && all_of fits xs) ≡ true → all_of fits xs ≡ true
    more true e = e
    more false e = cc
