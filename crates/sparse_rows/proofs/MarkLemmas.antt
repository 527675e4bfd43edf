-- Marks of rows.
use Rattle.std.proofs.Common.{◌≡◌, ℕ, zero, suc, ℤ, pos, negsuc, List, [], ◌∷◌, ◌++◌, Bool, true, false, not, map, take, drop, remove, get_or, length, ◌<◌, ◌+◌, ◌*◌, ◌%◌, refl, sym, ap, ◌∙◌, arith}
use Rattle.std.specs.Prelude.{neg_ℤ, unsigned_abs}
use Rattle.std.proofs.lemmas.Bool.{and_parts}
use Rattle.std.proofs.lemmas.List.{take-map, drop-map, map-append}
use Rattle.exact128.specs.Sums.{entry}
use Rattle.linear_rows.specs.Cleaning.{agree, int_same}
use Rattle.linear_rows.specs.Equation.{negates}
use Rattle.linear_rows.proofs.Cleanings.{agree_at}
use Rattle.linear_rows.proofs.Equations.{negates_at}
use Rattle.sparse_rows.specs.Marks.{AreUp, is_up, mark_of, mixed}
use Rattle.sparse_rows.proofs.NumberTests.{either_bool}

-- rows that agree have the same mark
pub same_mark : (m : ℕ) (r s : List ℤ) → agree m r s ≡ true → mark_of m r ≡ mark_of m s
same_mark zero r s h = refl
same_mark (suc m) r s h =
    let (one, more) = and_parts (int_same (entry r (suc m)) (entry s (suc m))) (agree m r s) h in
    let a = same_mark m r s more in
    let b = agree_at (suc m) r s (suc m) h (omega arith) (omega arith) in
    λ i. mixed (a i) (b i)

abs_neg : (x : ℤ) → unsigned_abs (neg_ℤ x) ≡ unsigned_abs x
abs_neg (pos zero) = refl
abs_neg (pos (suc n)) = refl
abs_neg (negsuc n) = refl

-- and so has a row negated
pub negated_mark : (m n : ℕ) (r s : List ℤ) → m < n → negates n r s ≡ true → mark_of m s ≡ mark_of m r
negated_mark zero n r s l h = refl
negated_mark (suc m) n r s l h =
    let a = negated_mark m n r s (omega arith) h in
    let b : unsigned_abs (entry s (suc m)) ≡ unsigned_abs (entry r (suc m)) = ap unsigned_abs (negates_at n r s (suc m) h l) ∙ abs_neg (entry r (suc m)) in
    λ i. (a i * 1000003 + b i) % 2147483647

-- a mark with one number more
pub marked_next : (row : List ℤ) (j mark next : ℕ) (x : ℤ) → mark ≡ mark_of j row → x ≡ entry row (j + 1) → next ≡ mixed mark x → next ≡ mark_of (j + 1) row
marked_next row j mark next x em ex en =
    let one : j + 1 ≡ suc j = omega arith in
    let here : x ≡ entry row (suc j) = ex ∙ ap (entry row) one in
    en ∙ ap (λ m. mixed m x) em ∙ ap (mixed (mark_of j row)) here ∙ ap (λ n. mark_of n row) (sym one)

pub not_false : (b : Bool) → not b ≡ false → b ≡ true
not_false true h = refl
not_false false h = cc

-- the marks without one
pub removed-map : {X Y : Type 0} (f : X → Y) (xs : List X) (k : ℕ) → remove (map f xs) k ≡ map f (remove xs k)
removed-map f xs k =
    (λ i. take-map f k xs i ++ drop-map f (suc k) xs i) ∙ sym (map-append f (take k xs) (drop (suc k) xs))

-- the mark at a place
pub got-map : {X Y : Type 0} (f : X → Y) (xs : List X) (k : ℕ) (d : Y) (e : X) → k < length xs → get_or (map f xs) k d ≡ f (get_or xs k e)
got-map f [] k d e h = absurd (omega (arith, h))
got-map f (x ∷ xs) zero d e h = refl
got-map f (x ∷ xs) (suc k) d e h = got-map f xs k d e (omega (arith, h))

-- flags that stay up
pub still_up : (flags more : List Bool) (marks : List ℕ) → ((m : ℕ) → is_up flags m ≡ true → is_up more m ≡ true) → AreUp flags marks → AreUp more marks
still_up flags more [] kept up = tt
still_up flags more (m ∷ marks) kept up = (kept m up.0, still_up flags more marks kept up.1)

-- and with one mark more
pub up_with : (flags : List Bool) (marks : List ℕ) (mark : ℕ) → AreUp flags marks → is_up flags mark ≡ true → AreUp flags (marks ++ mark ∷ [])
up_with flags [] mark up one = (one, tt)
up_with flags (m ∷ marks) mark up one = (up.0, up_with flags marks mark up.1 one)

-- and with one mark less
pub up_without : (flags : List Bool) (marks : List ℕ) (k : ℕ) → AreUp flags marks → AreUp flags (remove marks k)
up_without flags [] zero up = tt
up_without flags [] (suc k) up = tt
up_without flags (m ∷ marks) zero up = up.1
up_without flags (m ∷ marks) (suc k) up = (up.0, up_without flags marks k up.1)

-- the flag of the mark at a place
up_at : {X : Type 0} (flags : List Bool) (f : X → ℕ) (xs : List X) (k : ℕ) (e : X) → k < length xs → AreUp flags (map f xs) → is_up flags (f (get_or xs k e)) ≡ true
up_at flags f [] k e l up = absurd (omega (arith, l))
up_at flags f (x ∷ xs) zero e l up = up.0
up_at flags f (x ∷ xs) (suc k) e l up = up_at flags f xs k e (omega (arith, l)) up.1

-- a row whose mark's flag is down agrees with none of the rows
pub agrees_with_none : (flags : List Bool) (m : ℕ) (rows : List (List ℤ)) (row : List ℤ) → AreUp flags (map (mark_of m) rows) → is_up flags (mark_of m row) ≡ false → (j : ℕ) → j < length rows → agree m (get_or rows j []) row ≡ false
agrees_with_none flags m rows row up down j l = either_bool (agree m (get_or rows j []) row) (λ same.
    let one : is_up flags (mark_of m row) ≡ true = ap (is_up flags) (sym (same_mark m (get_or rows j []) row same)) ∙ up_at flags (mark_of m) rows j [] l up in
    cc)
